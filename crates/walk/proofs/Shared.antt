-- An entry over a `&` to the record: it returns what the core answered.
--     looking T ps L   the form of the entry, where L spells its result
--     ref_entry        the lemma of `Entry.antt` at that form
-- Assumes `Logic`.
use Prim.Native.Nat.{ℕ, suc}
use mathlib.Core.List.{List, [], ◌∷◌}
use seplogic.Ra.Ura.{Ura}
use lib.ListN.{length}
use mir.Syntax.{named, return}
use mir.Val.{Val}
use base.Fml.{ftrue}
use prog.Model.{Model}
use types.Logic.{Logic}
use types.Kit.{◌$◌, !, by, move, drop, keep, join, fsplit, fjoin}
use contract.Lifetimes.{Lfts}
use contract.Running.{Running}
use denote.Laws.{Is}
use denote.RattleType.{RattleType}
use denote.Ref.{Bor, ShrRef, shr_Tells, shr_Lawful}
use denote.Steps.{owned, shuts, nothing}
use denote.Struct.Declared.{row}
use denote.Struct.Laws as LL
use Rattle.walk.proofs.Locals.{put, content_put}
use Rattle.walk.proofs.Spelled.{Spelled, struct, spelled_fits}
use Rattle.walk.proofs.Frame.{ends}
use Rattle.walk.proofs.Parameters.{Param, count}
use Rattle.walk.proofs.Form.{Record, Form, w, at_call}
use Rattle.walk.proofs.Contract.{Terms, gives, Keeps, args, entry as entry_of}
use Rattle.walk.proofs.Borrowed.{looked}
use Rattle.walk.proofs.Call.{to_call, over_call}
use Rattle.walk.proofs.Entry.{Walks, Lemma, entry}

abbrev pub looking : (T : Record) (ps : List Param) {R : Lfts (count ps) → RattleType}
    → ((κ : Lfts (count ps)) → Spelled (R κ)) → Form
looking T ps {R} L = record {
  T = T;
  ps = ps;
  Ref = λ κ. ShrRef (named 0) κ (row T.X);
  seen = λ κ x. x;
  tells = λ κ. shr_Tells (named 0) κ (row T.X);
  lawful = λ κ 𝓛. shr_Lawful 𝓛 (named 0) κ (row T.X);
  Last = Unit {0};
  left = λ κ x h. ftrue;
  Seen = Bor T.X.D;
  see = λ κ x h. x;
  Y = R;
  R = R;
  answers = L;
  results = L;
  gives = λ κ r. r;
  to = λ κ h r. tt;
  sound = λ κ r. Unit {0};
  answer = 0;
  copied = suc (suc (length ps));
  rest = return;
  typed = λ τs. Unit {0};
}

module _ {M : Type 1} {𝓤 : Ura M} (𝓛 : Logic 𝓤) (T : Record) (ps : List Param)
    {R : Lfts (count ps) → RattleType} (L : (κ : Lfts (count ps)) → Spelled (R κ)) (kept : Keeps (looking T ps L)) where
  abbrev F : Form
  F = looking T ps L

  walks : Walks 𝓛 F kept
  walks Ensures Ensured follows C Λ fm core known κs qs a E ok =
      let z = args F κs a in
      let h : T.X.D = a.0.now in
      let Te : Terms 𝓤 = entry_of F 𝓤 kept Ensured in
      let b : ℕ = a.0.ref_ptr.0 in
      let o : ℕ = a.0.ref_ptr.1 in
      looked T h b o ! tt (λ s was. let good = spelled_fits 𝓛 (struct T.X T.laws) h was in move ! (6 ∷ 0 ∷ []) $
      -- [the locals; a share of the record's cell; what it owns; the way back; the borrow; the tokens; the others]
      to_call 𝓛 C Λ E ok z good $ move ! (1 ∷ 2 ∷ 3 ∷ []) $
      shuts ! tt (row T.X) s h (w F z ∷ []) b o $
      owned ! (row T.X) (Is (row T.X)) (LL.makes T.X T.plains 𝓛) h (w F z ∷ []) was $
      move ! (4 ∷ 0 ∷ 5 ∷ 2 ∷ []) $
      over_call 𝓛 C Λ E ok z kept Ensures fm core known qs.1 good (λ r ws. Te.Ensures κs a r (tt, ws.1)) (follows κs a)
      (λ r ws _ is.
      let v : Val = (L κs.1).val r in
      let fits = spelled_fits 𝓛 (L κs.1) r is in
      -- [the locals; what the result owns; the tokens; the last values; what is ensured; the token of the borrow]
      ends ! E v (put 0 v (at_call F z)) (ok.result κs.1 r fits.0) (content_put 0 v (at_call F z)) (
      move ! (2 ∷ []) $ fsplit ! $ drop ! $ nothing ! $ fjoin ! $ keep ! (4 ∷ 2 ∷ 1 ∷ 0 ∷ 3 ∷ []) $ join ! $
      by ! (gives 𝓛 Te κs qs a v r (tt, ws.1)))))

pub ref_entry : {M : Type 1} {𝓤 : Ura M} (𝓛 : Logic 𝓤) (𝓜 : Model 𝓤 𝓛.H) (𝓡 : Running 𝓤 𝓛.H 𝓜)
    (T : Record) (ps : List Param) {R : Lfts (count ps) → RattleType} (L : (κ : Lfts (count ps)) → Spelled (R κ))
    (kept : Keeps (looking T ps L)) → Lemma 𝓛 𝓜 𝓡 (looking T ps L) kept
ref_entry 𝓛 𝓜 𝓡 T ps L kept =
    entry 𝓛 𝓜 𝓡 (looking T ps L) kept (walks 𝓛 T ps L kept)
