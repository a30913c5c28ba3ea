-- Types of one machine value, which is a function of what the value denotes.
--     Spelled R        R is such a type.        struct, uint, mut_slice, shared_slice      a struct, .., a `&[R]`
--     Spelleds Ts      a list of such types, as a function's parameters are
--     spelt, values    the machine values of arguments: a list for each, and all in a row
--     spelled_fits     the machine value is one of the type
--     spelled_out      at a function's entry the arguments' machine values are those
-- Assumes `Logic` where there is a model.
use mathlib.Core.Path.{◌≡◌, sym, subst}
use mathlib.Core.List.{List, [], ◌∷◌}
use seplogic.Ra.Ura.{Ura}
use lib.Dec.{T}
use lib.ListN.{length}
use mir.Syntax.{Lifetime, Width, Ty}
use mir.Val.{Val, vint, vptr, has_ty, WT, WTs, of_list}
use base.Logic.{SProp, ent, sep, emp, via, fst∗, snd∗}
use base.Fml.{Lft}
use types.Logic.{Logic, sem}
use contract.Monad.{fact_use}
use denote.RattleType.{RattleType, Denots, Valss, flat, owns}
use denote.Laws.{Typed, Is, Ises, Are, Tells, Tellss, Spells, valss, all_tell, Lawful, showss, owns_show}
use denote.Memory.{lone}
use denote.Plain.{UInt, uint_Tells, uint_Lawful}
use denote.Ref.{Bor, as_bor}
use denote.Slice.{MutSlice, ShrSlice, slice_val, mut_slice_Tells, mut_slice_Lawful, shr_slice_Tells, shr_slice_Lawful}
use denote.Struct.Declared.{Declared, row}
use denote.Struct.Laws as LL

pub record Spelled (R : RattleType) : Type 2 where
  pub val : R.Denot → Val
  pub tells : Tells R (Is R) (λ x. val x ∷ [])
  pub lawful : {M : Type 1} {𝓤 : Ura M} (𝓛 : Logic 𝓤) → Lawful 𝓛 R

abbrev pub struct : (T : Declared) (L : LL.Laws T) → Spelled (row T)
struct T L = record { val = LL.val T L; tells = LL.tells T L; lawful = λ 𝓛. LL.lawful T L 𝓛 }

abbrev pub uint : (w : Width) → Spelled (UInt w)
uint w = record { val = vint w; tells = uint_Tells w; lawful = λ 𝓛. uint_Lawful 𝓛 w }

abbrev pub pointer : {X : Type 0} → Bor X → Val
pointer x = vptr x.ref_ptr.0 x.ref_ptr.1

abbrev slice : {X : Type 0} → Bor (List X) → Val
slice x = slice_val x.ref_ptr (length x.now)

module _ (ℓ : Lifetime) (κ : Lft) (R : RattleType) where
  abbrev pub mut_slice : Spelled (MutSlice ℓ κ R)
  mut_slice = record {
    val = λ x. slice (as_bor x);
    tells = mut_slice_Tells ℓ κ R;
    lawful = λ 𝓛. mut_slice_Lawful 𝓛 ℓ κ R;
  }

  abbrev pub shared_slice : Spelled (ShrSlice ℓ κ R)
  shared_slice = record {
    val = slice;
    tells = shr_slice_Tells ℓ κ R;
    lawful = λ 𝓛. shr_slice_Lawful 𝓛 ℓ κ R;
  }

-- ---- a list of such types
abbrev pub Spelleds : List RattleType → Type 2
Spelleds [] = Unit {2}
Spelleds (T ∷ Ts) = Spelled T × Spelleds Ts

abbrev spells : (Ts : List RattleType) → Spelleds Ts → Spells Ts
spells [] ls = tt
spells (T ∷ Ts) ls = ((λ x. ls.0.val x ∷ []), spells Ts ls.1)

abbrev tell : (Ts : List RattleType) (ls : Spelleds Ts) → Tellss Ts (Ises Ts) (spells Ts ls)
tell [] ls = tt
tell (T ∷ Ts) ls = (ls.0.tells, tell Ts ls.1)

abbrev pub spelt : (Ts : List RattleType) → Spelleds Ts → Denots Ts → Valss Ts
spelt Ts ls a = valss Ts (spells Ts ls) a

abbrev pub values : (Ts : List RattleType) → Spelleds Ts → Denots Ts → List Val
values Ts ls a = flat Ts (spelt Ts ls a)

-- v is a value of the type τ, and each number in it is one of its width
abbrev pub Fits : Ty → Val → Type 0
Fits τ v = T (has_ty τ v) × WT v

typed_fits : (τs : List Ty) (v : Val) → Typed τs (v ∷ []) → Fits (lone τs) v
typed_fits [] v t = absurd t
typed_fits (τ ∷ []) v t = t.0
typed_fits (τ ∷ σ ∷ τs) v t = absurd t.1

module _ {M : Type 1} {𝓤 : Ura M} (𝓛 : Logic 𝓤) where
  pub spelled_fits : {R : RattleType} (l : Spelled R) (x : R.Denot) → Is R x (l.val x ∷ []) → Fits (lone R.mir) (l.val x)
  spelled_fits {R} l x is = typed_fits R.mir (l.val x) ((l.lawful 𝓛).typed x (l.val x ∷ []) is)

  -- each number among the machine values is one of its width
  pub values_wt : (Ts : List RattleType) (ls : Spelleds Ts) (a : Denots Ts) → Are Ts (Ises Ts) a (spelt Ts ls a)
      → WTs (of_list (values Ts ls a))
  values_wt [] ls a are = tt
  values_wt (T ∷ Ts) ls a are = ((spelled_fits ls.0 a.0 are.0).1, values_wt Ts ls.1 a.1 are.1)

  -- P are the tokens that a function is passed beside what its parameters' types own
  pub spelled_out : (Ts : List RattleType) (ls : Spelleds Ts) (a : Denots Ts) (P : SProp 𝓤) (Q : List Val → SProp 𝓤)
      → (Are Ts (Ises Ts) a (spelt Ts ls a)
      → ent 𝓤 (sep 𝓤 (sep 𝓤 P (sem 𝓛 (owns Ts a (spelt Ts ls a)))) (emp 𝓤)) (Q (values Ts ls a)))
      → (vss : Valss Ts) → ent 𝓤 (sep 𝓤 (sep 𝓤 P (sem 𝓛 (owns Ts a vss))) (emp 𝓤)) (Q (flat Ts vss))
  spelled_out Ts ls a P Q k vss =
      let Own : SProp 𝓤 = sem 𝓛 (owns Ts a vss) in
      fact_use 𝓤 (Are Ts (Ises Ts) a vss)
      (via 𝓤 (sep 𝓤 P Own) (fst∗ 𝓤 (sep 𝓤 P Own) (emp 𝓤))
      (via 𝓤 Own (snd∗ 𝓤 P Own) (owns_show 𝓛 Ts (Ises Ts) (showss 𝓛 Ts) a vss))) (λ are.
      let e : vss ≡ spelt Ts ls a = all_tell Ts (Ises Ts) (spells Ts ls) (tell Ts ls) a vss are in
      subst (λ (us : Valss Ts). ent 𝓤 (sep 𝓤 (sep 𝓤 P (sem 𝓛 (owns Ts a us))) (emp 𝓤)) (Q (flat Ts us))) (sym e)
      (k (subst (Are Ts (Ises Ts) a) e are)))
