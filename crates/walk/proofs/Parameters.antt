-- The parameters of an entry after the record, as one list. It says of each what the entry does with it:
--     value R l        a value of R is passed on as it is
--     shared R         so is a `&[R]`
--     lent R           a `&mut [R]` is lent on
-- From the list come the types of the core's parameters after the record (`slots_of`), how their machine values are
-- spelled (`laws`), and what the entry's code does: the slices that it lends on (`lends_of`; at arguments `slices_of`),
-- and the locals that it passes to the core (`passes_of`). Each slice has a lifetime of its own, in order. The core's
-- are numbered from 0, and the entry's from 1, after the record's.
-- Assumes nothing.
use Prim.Native.Nat.{ℕ, zero, suc}
use mathlib.Core.List.{List, [], ◌∷◌}
use lib.ListN.{length}
use mir.Syntax.{named}
use contract.Lifetimes.{Lfts}
use denote.RattleType.{RattleType, Denots}
use denote.Memory.{lone, pointee}
use denote.Signature.{Slot, plain, types_at}
use denote.Slice.{MutSlice, ShrSlice}
use Rattle.walk.proofs.Lending.{Lend, Slices}
use Rattle.walk.proofs.Spelled.{Spelled, Spelleds, mut_slice, shared_slice}

pub data Param : Type 2 where
  value : (R : RattleType) → Spelled R → Param
  shared lent : RattleType → Param

-- how many lifetimes they have
abbrev pub count : List Param → ℕ
count [] = zero
count (value R l ∷ ps) = count ps
count (shared R ∷ ps) = suc (count ps)
count (lent R ∷ ps) = suc (count ps)

-- j is the number of the next lifetime, and `at` gives the lifetimes from there on
abbrev slots_from : (n j : ℕ) (ps : List Param) → (Lfts n → Lfts (count ps)) → List (Slot n)
slots_from n j [] at = []
slots_from n j (value R l ∷ ps) at = plain (λ _. R) ∷ slots_from n j ps at
slots_from n j (shared R ∷ ps) at =
    plain (λ κs. ShrSlice (named j) (at κs).0 R) ∷ slots_from n (suc j) ps (λ κs. (at κs).1)
slots_from n j (lent R ∷ ps) at =
    plain (λ κs. MutSlice (named j) (at κs).0 R) ∷ slots_from n (suc j) ps (λ κs. (at κs).1)

abbrev laws_from : (n j : ℕ) (ps : List Param) (at : Lfts n → Lfts (count ps)) (κs : Lfts n)
    → Spelleds (types_at (slots_from n j ps at) κs)
laws_from n j [] at κs = tt
laws_from n j (value R l ∷ ps) at κs = (l, laws_from n j ps at κs)
laws_from n j (shared R ∷ ps) at κs = (shared_slice (named j) (at κs).0 R, laws_from n (suc j) ps (λ κs. (at κs).1) κs)
laws_from n j (lent R ∷ ps) at κs = (mut_slice (named j) (at κs).0 R, laws_from n (suc j) ps (λ κs. (at κs).1) κs)

-- k is the next free local, and p the parameter's own
abbrev lends_from : (k p j : ℕ) → List Param → List Lend
lends_from k p j [] = []
lends_from k p j (value R l ∷ ps) = lends_from k (suc p) j ps
lends_from k p j (shared R ∷ ps) = lends_from k (suc p) (suc j) ps
lends_from k p j (lent R ∷ ps) =
    record {
      source = p;
      address = k;
      slice = suc k;
      lifetime = suc j;
      target = pointee R.written;
      element = lone R.mir;
    } ∷ lends_from (suc (suc k)) (suc p) (suc j) ps

abbrev slices_from : (k p n j : ℕ) (ps : List Param) (at : Lfts n → Lfts (count ps)) (κs : Lfts n)
    → Denots (types_at (slots_from n j ps at) κs) → Slices (lends_from k p j ps)
slices_from k p n j [] at κs a = tt
slices_from k p n j (value R l ∷ ps) at κs a = slices_from k (suc p) n j ps at κs a.1
slices_from k p n j (shared R ∷ ps) at κs a = slices_from k (suc p) n (suc j) ps (λ κs. (at κs).1) κs a.1
slices_from k p n j (lent R ∷ ps) at κs a = (
  record { start = a.0.ref_ptr; size = length a.0.now },
  slices_from (suc (suc k)) (suc p) n (suc j) ps (λ κs. (at κs).1) κs a.1,
)

-- the next free local once they are lent on
abbrev pub free_from : ℕ → List Param → ℕ
free_from k [] = k
free_from k (value R l ∷ ps) = free_from k ps
free_from k (shared R ∷ ps) = free_from k ps
free_from k (lent R ∷ ps) = free_from (suc (suc k)) ps

abbrev passes_from : (k p : ℕ) → List Param → List ℕ
passes_from k p [] = []
passes_from k p (value R l ∷ ps) = p ∷ passes_from k (suc p) ps
passes_from k p (shared R ∷ ps) = p ∷ passes_from k (suc p) ps
passes_from k p (lent R ∷ ps) = suc k ∷ passes_from (suc (suc k)) (suc p) ps

abbrev pub slots_of : (ps : List Param) → List (Slot (count ps))
slots_of ps = slots_from (count ps) 0 ps (λ κs. κs)

abbrev pub laws : (ps : List Param) (κs : Lfts (count ps)) → Spelleds (types_at (slots_of ps) κs)
laws ps = laws_from (count ps) 0 ps (λ κs. κs)

-- the record is local 1
abbrev pub lends_of : ℕ → List Param → List Lend
lends_of k ps = lends_from k 2 0 ps

abbrev pub slices_of : (k : ℕ) (ps : List Param) (κs : Lfts (count ps)) → Denots (types_at (slots_of ps) κs)
    → Slices (lends_of k ps)
slices_of k ps = slices_from k 2 (count ps) 0 ps (λ κs. κs)

abbrev pub passes_of : ℕ → List Param → List ℕ
passes_of k ps = passes_from k 2 ps
