-- The entries of one bank, with one left out: where they stand, and what follows from the search of them. Assumes
-- nothing.
use Prim.Native.Nat.{ℕ, ◌+◌, ◌*◌, ◌<◌, ◌≤◌}
use native.Mathlib.Omega.{arith}
use mathlib.Core.Path.{◌≡◌, refl, sym, ap, ◌∙◌}
use mathlib.Core.Bool.{false}
use mathlib.Core.List.{List}
use lib.Dec.{leb}
use lib.ListN.{length, get_or, set, take, length-set}
use lib.Seq.{length-take-le}
use Rattle.geometry.specs.declared.Settings.{Settings}
use Rattle.geometry.specs.Entry.{empty}
use Rattle.scan.specs.Scan.{index_of}
use Rattle.basics.specs.Portions.{portion}
use Rattle.banks.specs.Banks.{bank_of}
use Rattle.basics.proofs.Portions.{portion_fits, length-portion, get_or-portion}
use Rattle.banks.proofs.Banks.{bank_in}
use Rattle.tracking.proofs.Worn.{worn-told, worn_unnamed}
use Rattle.seek.specs.Seeking.{worn_before, Seekable}

module _ {S : Settings} {changed : ℕ} {rows counts : List ℕ} (seekable : Seekable S changed rows counts) where
  -- the entries of bank c are in the tables
  module _ {c : ℕ} (c_in : c < S.b) where
    pub rows_fit : c * S.k + S.k ≤ length rows
    rows_fit = portion_fits S.k S.b c (length rows) seekable.rows_long c_in

    pub counts_fit : c * S.k + S.k ≤ length counts
    counts_fit = portion_fits S.k S.b c (length counts) seekable.counts_long c_in

    pub others_fit : c * S.k + S.k ≤ length (set rows changed empty)
    others_fit = omega (arith, rows_fit, length-set rows changed empty)

    -- the entries before the bank's end
    pub cut_long : length (take (c * S.k + S.k) rows) ≡ c * S.k + S.k
    cut_long = length-take-le (c * S.k + S.k) rows rows_fit

  -- the bank of a physical row is one of B
  pub bank_known : {c : ℕ} (x : ℕ) → c ≡ bank_of S x → c < S.b
  bank_known {c} x e = rw e (bank_in S x seekable.some_bank)

  -- c: a row's bank; i: the lowest entry that names the row, or the bank's end
  module _ (x : ℕ) {c i : ℕ} (e : c ≡ bank_of S x) (found : i ≡ c * S.k + index_of x (portion S.k c (set rows changed empty))) where
    c_in : c < S.b
    c_in = bank_known x e

    abbrev others : List ℕ
    others = portion S.k c (set rows changed empty)

    others_long : length others ≡ S.k
    others_long = length-portion S.k c (set rows changed empty) (others_fit c_in)

    pub worn_found : i < c * S.k + S.k → leb S.a (get_or counts i 0) ≡ worn_before S changed rows counts x
    worn_found h =
        let j : ℕ = index_of x others in
        let j-in : j < S.k = omega (arith, found) in
        let count = ap (λ (n : ℕ). get_or counts n 0) found ∙ sym (get_or-portion S.k c counts (counts_fit c_in) j 0 j-in) in
        rw (← e)
        (ap (leb S.a) count
        ∙ worn-told S.a others (portion S.k c counts) x j refl (omega (arith, others_long)))

    pub worn_missed : c * S.k + S.k ≤ i → false ≡ worn_before S changed rows counts x
    worn_missed h =
        rw (← e)
        (worn_unnamed S.a others (portion S.k c counts) x (index_of x others) refl (omega (arith, found, others_long)))
