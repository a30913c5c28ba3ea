-- All locals of a function as one assertion. So a proof that walks its code has one entry for them in its context, and
-- says by number which local it means.
--     cells E cs       each local of the environment E, with what cs says that it holds and the right to free it
--     locals 𝓛 E cs    the same as an entry of a context
--     local-at         a local and its value, as `Types/Part.antt` takes a cell out of an entry
--     sets             a local is written.        typed_in     what a cell holds is a value of its type
--     behind, operands     a part of what a local points at, and locals as the operands of a call
-- Assumes `Logic`.
use mathlib.Core.Path.{◌≡◌, refl, sym, ap, subst}
use Prim.Native.Nat.{ℕ, zero, suc}
use mathlib.Core.Option.{Option, none, some}
use mathlib.Core.List.{List, [], ◌∷◌}
use seplogic.Ra.Ura.{Ura}
use base.Fraction.{full_share}
use lib.Dec.{T}
use mir.Syntax.{Ty, Step as Hop, deref, place, Opd as Operand, copy}
use mir.Val.{Val, vptr, WT, has_ty}
use base.Logic.{SProp, ent, sep, wand, all, emp, id⊢, via, mono_r, apply∗, all_e}
use base.Fml.{Share, fat}
use prog.Wp.{Env, Spot}
use types.Logic.{Logic}
use types.Kit.{Item, ‵, raw, ◌⊛◌, mean, ⋆, Goal, Seq, ◌$◌, ◌∵◌, !, qed, by, move, use1, use2}
use types.Kit.{split, join, rewrite, frame, each, assume, check, done, pop, push}
use types.Run.{Walks, Finds, Opds, Writes, stop, hop, from, load, and_then, no_more, well_typed}
use types.Part.{Part, look_in}
use Rattle.walk.proofs.Locals.{types_of, local_at, Contents, first, later, content, put, held, contents}
use Rattle.walk.proofs.Locals.{takes, takes_at, taken, Each}

module _ {M : Type 1} {𝓤 : Ura M} (𝓛 : Logic 𝓤) where
  open 𝓛 use {H}

  abbrev ◌∗◌ : SProp 𝓤 → SProp 𝓤 → SProp 𝓤
  P ∗ Q = sep 𝓤 P Q

  abbrev ◌⊢◌ : SProp 𝓤 → SProp 𝓤 → Type 1
  P ⊢ Q = ent 𝓤 P Q

  infixr 35 ◌∗◌
  infix 26 ◌⊢◌
  abbrev pub At : Ty × ℕ → Val → SProp 𝓤
  At l v = H.at full_share l.0 l.1 zero v

  abbrev pub Room : Ty × ℕ → SProp 𝓤
  Room l = H.room l.0 l.1 zero

  abbrev pub Dies : Ty × ℕ → SProp 𝓤
  Dies l = H.dies l.0 l.1

  abbrev pub cell : Ty × ℕ → Option Val → SProp 𝓤
  cell l none = Room l
  cell l (some v) = At l v

  abbrev pub cells : Env 𝓤 H → Contents → SProp 𝓤
  cells [] cs = emp 𝓤
  cells (l ∷ E) cs = (cell l (first cs) ∗ Dies l) ∗ cells E (later cs)

  -- a local that holds v is as it was once v is put into it
  same_cells : (E : Env 𝓤 H) (i : ℕ) (v : Val) (cs : Contents) → T (takes i (types_of E) v) → content i cs ≡ some v
      → cells E (put i v cs) ≡ cells E cs
  same_cells [] i v cs t e = absurd t
  same_cells (l ∷ E) zero v cs t e = ap (λ (c : Option Val). (cell l c ∗ Dies l) ∗ cells E (later cs)) (sym e)
  same_cells (l ∷ E) (suc i) v cs t e =
      ap (λ (P : SProp 𝓤). (cell l (first cs) ∗ Dies l) ∗ P) (same_cells E i v (later cs) t e)

  -- ---- a local is taken out, with the way back: whatever value it is given, all are cells again
  abbrev pub Way : (Val → SProp 𝓤) → (Val → SProp 𝓤) → SProp 𝓤
  Way Y F = all 𝓤 (λ (u : Val). wand 𝓤 (Y u) (F u))

  abbrev Back : Env 𝓤 H → ℕ → Contents → SProp 𝓤
  Back E i cs = Way (At (local_at E i)) (λ u. cells E (put i u cs))

  pub back : (Y F : Val → SProp 𝓤) (u : Val) → Y u ∗ Way Y F ⊢ F u
  back Y F u =
      via 𝓤 (Y u ∗ wand 𝓤 (Y u) (F u)) (mono_r 𝓤 (Y u) (all_e 𝓤 (λ (w : Val). wand 𝓤 (Y w) (F w)) u))
      (apply∗ 𝓤 (Y u) (F u))

  module _ where
    pub roomy : (l : Ty × ℕ) (c : Option Val) → cell l c ⊢ Room l
    roomy l none = id⊢ 𝓤 (Room l)
    roomy l (some v) = 𝓛.laws.at_room l.0 l.1 zero v

    first_out : (X D R : SProp 𝓤) (Y : Val → SProp 𝓤) → (X ∗ D) ∗ R ⊢ X ∗ Way Y (λ u. (Y u ∗ D) ∗ R)
    first_out X D R Y =
        qed 𝓛 ((raw X ⊛ raw D) ∷ raw R ∷ []) ∵ split ! $ frame ! $
        each ! (λ (u : Val). wand 𝓤 (Y u) ((Y u ∗ D) ∗ R)) (λ u. assume ! (raw (Y u)) $ join ! $ done !)

    pub later_out : (X P R : SProp 𝓤) (Y F : Val → SProp 𝓤) → R ⊢ P ∗ Way Y F → X ∗ R ⊢ P ∗ Way Y (λ u. X ∗ F u)
    later_out X P R Y F h =
        qed 𝓛 (raw X ∷ raw R ∷ []) ∵ move ! (1 ∷ []) $ use1 𝓛 (raw P ⊛ raw (Way Y F)) h $ split ! $ frame ! $
        each ! (λ (u : Val). wand 𝓤 (Y u) (X ∗ F u)) (λ u.
        assume ! (raw (Y u)) $ use2 𝓛 (raw (F u)) (back Y F u) $ move ! (1 ∷ 0 ∷ []) $ done !)

    out : (E : Env 𝓤 H) (i : ℕ) (v : Val) (cs : Contents) → T (takes i (types_of E) v)
        → cells E cs ⊢ cell (local_at E i) (content i cs) ∗ Back E i cs
    out [] i v cs t = absurd t
    out (l ∷ E) zero v cs t = first_out (cell l (first cs)) (Dies l) (cells E (later cs)) (At l)
    out (l ∷ E) (suc i) v cs t =
        later_out (cell l (first cs) ∗ Dies l) (cell (local_at E i) (content i (later cs))) (cells E (later cs))
        (At (local_at E i)) (λ u. cells E (put i u (later cs))) (out E i v (later cs) t)

-- ---- the rules
abbrev pub locals : {M : Type 1} {𝓤 : Ura M} → (𝓛 : Logic 𝓤) → Env 𝓤 𝓛.H → Contents → Item 𝓤
locals {𝓤 = 𝓤} 𝓛 E cs = raw (cells 𝓛 E cs)

module _ {M : Type 1} {𝓤 : Ura M} {𝓛 : Logic 𝓤} {K : Type 0} where
  open 𝓛 use {H}

  pub local-at : K → (E : Env 𝓤 H) (i : ℕ) (τ : Ty) (v : Val) (cs : Contents) → (local_at E i).0 ≡ τ
      → T (takes i (types_of E) v) → content i cs ≡ some v
      → Part K 𝓛 (locals 𝓛 E cs) full_share τ (local_at E i).1 zero v (λ u. locals 𝓛 E (put i u cs))
  local-at t E i τ v cs type takes e =
      let Holds : Option Val → SProp 𝓤 = λ c. sep 𝓤 (cell 𝓛 (local_at E i) c) (Back 𝓛 E i cs) in
      subst (λ (σ : Ty). Part K 𝓛 (locals 𝓛 E cs) full_share σ (local_at E i).1 zero v (λ u. locals 𝓛 E (put i u cs)))
      type (record {
        out = subst (λ (c : Option Val). ent 𝓤 (cells 𝓛 E cs) (Holds c)) e (out 𝓛 E i v cs takes);
        same = ap {B = Item 𝓤} raw (same_cells 𝓛 E i v cs takes e);
      })

  pub sets : K → {Γ : List (Item 𝓤)} (E : Env 𝓤 H) (i : ℕ) (v : Val) (cs : Contents) → T (takes i (types_of E) v) → WT v
      → Writes K 𝓛 (locals 𝓛 E cs ∷ Γ) (local_at E i).0 (local_at E i).1 zero v (locals 𝓛 E (put i v cs) ∷ Γ)
  sets t {Γ} E i v cs takes wt = record {
    go = λ P k.
        let l : Ty × ℕ = local_at E i in
        via 𝓤 (sep 𝓤 (cells 𝓛 E cs) (⋆ 𝓛 Γ)) (pop 𝓛 (locals 𝓛 E cs) Γ)
        (qed 𝓛 (locals 𝓛 E cs ∷ raw (⋆ 𝓛 Γ) ∷ []) ∵
        use1 𝓛 (raw (cell 𝓛 l (content i cs)) ⊛ raw (Back 𝓛 E i cs)) (out 𝓛 E i v cs takes) $ split ! $
        use1 𝓛 (raw (Room 𝓛 l)) (roomy 𝓛 l (content i cs)) $ check ! (takes_at E i v takes, wt) $ frame ! $
        assume ! (raw (At 𝓛 l v)) $
        use2 𝓛 (locals 𝓛 E (put i v cs)) (back 𝓛 (At 𝓛 l) (λ u. cells 𝓛 E (put i u cs)) v) $
        by ! (via 𝓤 (⋆ 𝓛 (locals 𝓛 E (put i v cs) ∷ Γ)) (push 𝓛 (locals 𝓛 E (put i v cs)) Γ) k));
  }

  pub typed_in : K → {Γ : List (Item 𝓤)} {G : Goal 𝓤 H} {i : Item 𝓤} {q : Share} {τ : Ty} {b o : ℕ} {v : Val}
      {F : Val → Item 𝓤} → Part K 𝓛 i q τ b o v F → (T (has_ty τ v) × WT v → Seq K 𝓛 (i ∷ Γ) G) → Seq K 𝓛 (i ∷ Γ) G
  typed_in t {q = q} {τ} {b} {o} {v} {F} p k =
      use1 𝓛 (‵ (fat q τ b o v) ⊛ raw (Way 𝓛 (H.at q τ b o) (λ u. mean 𝓛 (F u)))) p.out $ split t $
      well_typed t (λ wt. use2 𝓛 (F v) (back 𝓛 (H.at q τ b o) (λ u. mean 𝓛 (F u)) v) $
      rewrite t 0 (λ (j : Item 𝓤). j) p.same refl $ k wt)

-- ---- locals as a statement reads them
abbrev pub copies : List ℕ → List Operand
copies [] = []
copies (i ∷ is) = copy (place i []) ∷ copies is

module _ {M : Type 1} {𝓤 : Ura M} {𝓛 : Logic 𝓤} {K : Type 0} {Γ : List (Item 𝓤)}
    (E : Env 𝓤 𝓛.H) where
  open 𝓛 use {H}

  pub behind : K → (i b o : ℕ) {τ : Ty} {st : List Hop} {sp : Spot 𝓤 H} (cs : Contents)
      → T (takes i (types_of E) (vptr b o)) → content i cs ≡ some (vptr b o)
      → Walks K 𝓛 (locals 𝓛 E cs ∷ Γ) E (τ, b, o) st sp → Finds K 𝓛 (locals 𝓛 E cs ∷ Γ) E (place i (deref τ ∷ st)) sp
  behind t i b o cs takes e w =
      from t (hop t (look_in t 0 (local-at t E i (local_at E i).0 (vptr b o) cs refl takes e)) w)

  -- at a call what the callee is handed, h, stands before the locals
  pub operands : K → {h : Item 𝓤} (is : List ℕ) (vs : List Val) (cs : Contents) → Each (taken is (types_of E) vs)
      → contents is cs ≡ held vs → Opds K 𝓛 (h ∷ locals 𝓛 E cs ∷ Γ) E (copies is) vs
  operands t [] [] cs ok e = no_more t
  operands t [] (v ∷ vs) cs ok e = absurd ok.0
  operands t (i ∷ is) [] cs ok e = absurd ok.0
  operands t (i ∷ is) (v ∷ vs) cs ok e =
      let here = local-at t E i (local_at E i).0 v cs refl ok.0 (ap first e) in
      and_then t (load t (from t (stop t)) (look_in t 1 here)) (operands t is vs cs ok.1 (ap later e))
