-- An entry over a `&mut` to the record: after the call it stores parts of the answer in the record, or the whole of it, and
-- returns another part.
--     Answer T         what such a core answers, and what the entry stores of it (`Stores.antt`) and returns
--     mutable An ps    the form of the entry.        mut_entry     the lemma of `Entry.antt` at that form
-- Assumes `Logic`.
use mathlib.Core.Path.{◌≡◌, refl, ap, ◌∙◌}
use Prim.Native.Nat.{ℕ, suc}
use mathlib.Core.List.{List, [], ◌∷◌}
use seplogic.Ra.Ura.{Ura}
use base.Fraction.{full_share}
use lib.Dec.{T as T'}
use lib.ListN.{length}
use mir.Syntax.{named, Ty, place, rv_opd, seq, assign, return}
use mir.Raw.{raw as raw_ty}
use mir.Val.{Val}
use base.Fml.{Lft, Fml, fsep, fres, fbor, fat}
use prog.Model.{Model}
use types.Logic.{Logic}
use types.Kit.{‵, ◌$◌, !, by, move, keep, use1, rewrite, join, fsplit, fjoin}
use types.Run.{stop, from, of_opd, assigns}
use types.SemTy.{Body}
use denote.Memory.{mem}
use contract.Running.{Running}
use denote.Laws.{Is, Makes}
use denote.RattleType.{RattleType}
use denote.Ref.{MutBor, MutRef, as_bor, at_last, mut_Tells, mut_Lawful}
use denote.Steps.{owned}
use denote.Struct.Declared.{Declared, row, shape}
use denote.Struct.Struct.{layout}
use denote.Struct.Laws as LL
use Rattle.walk.proofs.Locals.{types_of, local_at, type_at, type-at, Contents, first, put, content_put, content_other}
use Rattle.walk.proofs.Locals.{takes, conj, apart}
use Rattle.walk.proofs.Cells.{sets}
use Rattle.walk.proofs.Parts.{part, leads, the_part, part_of}
use Rattle.walk.proofs.Spelled.{Spelled, struct, spelled_fits}
use Rattle.walk.proofs.Stores.{Store, begun, storing, Alike, Within, stored, tests, stores}
use Rattle.walk.proofs.Frame.{ends}
use Rattle.walk.proofs.Parameters.{Param, free_from}
use Rattle.walk.proofs.Form.{Record, Form, at_call}
use Rattle.walk.proofs.Contract.{Terms, gives, Keeps, args, entry as entry_of}
use Rattle.walk.proofs.Borrowed.{opened, shut}
use Rattle.walk.proofs.Call.{there, to_call, over_call}
use Rattle.walk.proofs.Entry.{Walks, Lemma, entry}

pub record Answer (T : Record) : Type 2 where
  pub Y : Declared
  pub laws : LL.Laws Y
  pub R : RattleType  -- the result: plain data
  pub spelled : Spelled R
  pub makes : {M : Type 1} {𝓤 : Ura M} (𝓛 : Logic 𝓤) → Makes 𝓛 R (Is R)
  -- the record after an answer, and the entry's result
  pub to : T.X.D → Y.D → T.X.D
  pub gives : Y.D → R.Denot
  -- the stores that make that record, and the answer's part that is the result
  pub stores : List Store
  pub from : List ℕ
  pub alike : Alike (layout (shape T.X)) (layout (shape Y)) stores
  -- the machine values that they leave and return are those of the record and the result
  pub to_val : (h : T.X.D) (d : Y.D)
      → stored (LL.val Y laws d) stores (LL.val T.X T.laws h) ≡ LL.val T.X T.laws (to h d)
  pub gives_val : (d : Y.D) → part from (LL.val Y laws d) ≡ spelled.val (gives d)
  -- and are related to them, where the record's and the answer's are
  pub to_is : (h : T.X.D) (d : Y.D) → Is (row T.X) h (LL.vals T.X T.laws h) → Is (row Y) d (LL.vals Y laws d)
      → Is (row T.X) (to h d) (LL.vals T.X T.laws (to h d))
  pub gives_is : (d : Y.D) (vs : List Val) → Is (row Y) d vs → Is R (gives d) (spelled.val (gives d) ∷ [])

-- the first local that is free: in it each `indexed` scales its index
abbrev scaled : List Param → ℕ
scaled ps = free_from (suc (suc (suc (suc (length ps))))) ps

-- the borrow, closed, which the contract hands back with the last value
abbrev lent : (T : Record) → Lft → MutBor T.X.D → Fml
lent T κ x = fbor κ (Body (mem (row T.X)) x.ref_ptr.0 x.ref_ptr.1 x.ghost_name)

abbrev pub mutable : {T : Record} → Answer T → List Param → Form
mutable {T} An ps =
    let answer : ℕ = suc (suc (length ps)) in
    let x : Ty = layout (shape T.X) in
    let y : Ty = layout (shape An.Y) in
    record {
      T = T;
      ps = ps;
      Ref = λ κ. MutRef (named 0) κ (row T.X);
      seen = λ κ x. as_bor x;
      tells = λ κ. mut_Tells (named 0) κ (row T.X);
      lawful = λ κ 𝓛. mut_Lawful 𝓛 (named 0) κ (row T.X);
      Last = T.X.D;
      left = λ κ x h. fsep (fres x.ghost_name ((row T.X).coded.code h)) (lent T κ x);
      Seen = MutBor T.X.D;
      see = λ κ x h. at_last x h;
      Y = λ κ. row An.Y;
      R = λ κ. An.R;
      answers = λ κ. struct An.Y An.laws;
      results = λ κ. An.spelled;
      gives = λ κ. An.gives;
      to = λ κ. An.to;
      sound = λ κ d. Within (LL.val An.Y An.laws d) An.stores;
      answer = answer;
      copied = suc answer;
      rest = storing x y answer (scaled ps) (begun (scaled ps) An.stores) An.stores
          (seq (assign (place 0 []) (rv_opd (the_part answer An.from))) return);
      typed = λ τs. (type_at τs answer ≡ y) × ((b o : ℕ) (h : T.X.D) (d : An.Y.D)
          → let v = LL.val An.Y An.laws d in
          T' (conj (conj (leads An.from y v)
          ∷ tests v x y answer (scaled ps) τs b o (begun (scaled ps) An.stores) An.stores (LL.val T.X T.laws h))));
    }

module _ {M : Type 1} {𝓤 : Ura M} (𝓛 : Logic 𝓤) {T : Record} (An : Answer T)
    (ps : List Param) (kept : Keeps (mutable An ps)) where
  abbrev F : Form
  F = mutable An ps

  walks : Walks 𝓛 F kept
  walks Ensures Ensured follows C Λ fm core known κs qs a E ok =
      let x = a.0 in
      let z = args F κs a in
      let Te : Terms 𝓤 = entry_of F 𝓤 kept Ensured in
      let b : ℕ = x.ref_ptr.0 in
      let o : ℕ = x.ref_ptr.1 in
      let X : Ty = layout (shape T.X) in
      let Y : Ty = layout (shape An.Y) in
      let w : Val = LL.val T.X T.laws x.now in
      let k : ℕ = scaled ps in
      let m : ℕ = begun k An.stores in
      let called : Contents = at_call F z in
      let type : (local_at E F.answer).0 ≡ Y = type-at E F.answer ∙ ok.rest.0 in
      opened T x.now b o ! tt (λ was. let good = spelled_fits 𝓛 (struct T.X T.laws) x.now was in
      move ! (7 ∷ 0 ∷ []) $
      -- [the locals; the record's cell; what it owns; the open borrow; its value, twice; the tokens; the others]
      to_call 𝓛 C Λ E ok z good $ move ! (6 ∷ 2 ∷ 7 ∷ []) $
      over_call 𝓛 C Λ E ok z kept Ensures fm core known qs.1 good
      (λ d ws. Te.Ensures κs a (An.gives d) (An.to x.now d, ws.1)) (follows κs a) (λ d ws within is.
      let v : Val = LL.val An.Y An.laws d in
      let h : T.X.D = An.to x.now d in
      let r : Val = An.spelled.val (An.gives d) in
      let fits-d = spelled_fits 𝓛 (F.answers κs.1) d is in
      let takes-d : T' (takes F.answer (types_of E) v) = ok.answer κs.1 d fits-d.0 in
      let points = content_other 1 F.answer v called tt ∙ ap first (ok.sent z) in
      let is-h : Is (row T.X) h (LL.vals T.X T.laws h) = An.to_is x.now d was is in
      let is-r : Is An.R (An.gives d) (r ∷ []) = An.gives_is d (v ∷ []) is in
      let fits-r = spelled_fits 𝓛 An.spelled (An.gives d) is-r in
      let takes-r : T' (takes 0 (types_of E) r) = ok.result κs.1 (An.gives d) fits-r.0 in
      let able = apart (conj (leads An.from Y v)
      ∷ tests v X Y F.answer k (types_of E) b o m An.stores w) (ok.rest.1 b o x.now d) in
      let given = apart (leads An.from Y v) able.0 in
      -- [the locals; the record's cell; what the answer owns; the tokens; the last values; what is ensured; the borrow]
      move ! (0 ∷ 5 ∷ []) $
      stores 𝓛 C Λ E X Y F.answer k v b o type takes-d (there 𝓛 C Λ E ok z).0 An.stores m w
      (put F.answer v called) An.alike within able.1 (content_put F.answer v called, points) (λ cs has.
      assigns ! (of_opd ! (part_of E ! F.answer An.from Y v cs type given takes-d has (An.gives_val d)))
      (from ! (stop !)) (sets ! E 0 r cs takes-r fits-r.1) $
      rewrite ! 1 (λ (u : Val). ‵ (fat full_share (raw_ty X) b o u)) (An.to_val x.now d) refl $
      move ! (1 ∷ 6 ∷ 7 ∷ 8 ∷ []) $ shut T h b o ! tt is-h $ move ! (3 ∷ []) $
      ends ! E r (put 0 r cs) takes-r (content_put 0 r cs) (
      -- [the record's value; the borrow; its token; what the answer owns; the tokens; the last values; what is ensured]
      use1 𝓛 (‵ (fres x.ghost_name ((row T.X).coded.code h))) (𝓛.names.obs-res x.ghost_name ((row T.X).coded.code h)) $
      fjoin ! $
      owned ! An.R (Is An.R) (An.makes 𝓛) (An.gives d) (r ∷ []) is-r $
      move ! (5 ∷ []) $ fsplit ! $ move ! (3 ∷ 1 ∷ []) $ fjoin ! $ keep ! (3 ∷ 5 ∷ 2 ∷ 0 ∷ 6 ∷ []) $ join ! $
      by ! (gives 𝓛 Te κs qs a r (An.gives d) (h, ws.1))))))

pub mut_entry : {M : Type 1} {𝓤 : Ura M} (𝓛 : Logic 𝓤) (𝓜 : Model 𝓤 𝓛.H) (𝓡 : Running 𝓤 𝓛.H 𝓜)
    {T : Record} (An : Answer T) (ps : List Param) (kept : Keeps (mutable An ps))
    → Lemma 𝓛 𝓜 𝓡 (mutable An ps) kept
mut_entry 𝓛 𝓜 𝓡 An ps kept =
    entry 𝓛 𝓜 𝓡 (mutable An ps) kept (walks 𝓛 An ps kept)
