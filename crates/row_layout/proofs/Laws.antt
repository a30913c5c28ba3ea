-- The bytes of each row after a write into one row, and after a copy of one row to another: rows do not overlap.
-- Assumes nothing.
use Prim.Native.Nat.{ℕ, ◌+◌, ◌-◌, ◌*◌, ◌≤◌, ◌<◌}
use mathlib.Core.Path.{◌≡◌, ◌∙◌}
use mathlib.Core.Logic.{◌⊎◌, inl, inr, ◌≢◌}
use mathlib.Core.List.{List}
use native.Mathlib.Omega.{arith}
use lib.ListN.{length, get_or, drop, length-drop}
use lib.Seq.{length-paste, length-take-le, get_or-take, get_or-drop}
use Rattle.basics.proofs.Pastes.{paste_in, paste_out}
use Rattle.basics.proofs.Portions.{portion_before, portion_apart}
use Rattle.row_layout.specs.Bytes.{row_bytes, written, copied}

-- the byte of row p at column c
abbrev pub byte_at : ℕ → List ℕ → ℕ → ℕ → ℕ
byte_at w store p c = get_or store (p * w + c) 0

pub row_bytes_at : (w : ℕ) (store : List ℕ) (p c : ℕ) → c < w → get_or (row_bytes w store p) c 0 ≡ byte_at w store p c
unfolding row_bytes
row_bytes_at w store p c h = rw (get_or-take, get_or-drop)

-- a row within the store has w bytes
pub length-row : (w : ℕ) (store : List ℕ) (p : ℕ) → p * w + w ≤ length store → length (row_bytes w store p) ≡ w
unfolding row_bytes
length-row w store p inside = length-take-le w (drop (p * w) store) (omega (arith, length-drop (p * w) store))

pub length-row_bytes : (w rows : ℕ) (store : List ℕ) (p : ℕ) → length store ≡ rows * w → p < rows → length (row_bytes w store p) ≡ w
length-row_bytes w rows store p sized inside = length-row w store p (omega (arith, portion_before w p rows inside))

-- bytes written into row p from a column on
module _ (w rows : ℕ) (store : List ℕ) (p column : ℕ) (bytes : List ℕ) (sized : length store ≡ rows * w) (inside : p < rows) (fits : column + length bytes ≤ w) where
  written_fits : p * w + column + length bytes ≤ length store
  written_fits = omega (arith, portion_before w p rows inside)

  -- a written row: the bytes from the column on, its own before and behind
  pub written_in : (c : ℕ) → column ≤ c → c < column + length bytes → byte_at w (written w store p column bytes) p c ≡ get_or bytes (c - column) 0
  unfolding written
  written_in c low high =
      let e : p * w + column + (c - column) ≡ p * w + c = omega arith in
      rw e at (paste_in store (p * w + column) bytes (length bytes) written_fits (omega arith) (c - column) (omega arith))

  pub length-written : length (written w store p column bytes) ≡ length store
  unfolding written
  length-written = length-paste store (p * w + column) bytes (length bytes) written_fits (omega arith)

  -- a byte that is not written keeps its value
  written_out : (i : ℕ) → (i < p * w + column) ⊎ (p * w + column + length bytes ≤ i) → get_or (written w store p column bytes) i 0 ≡ get_or store i 0
  unfolding written
  written_out = paste_out store (p * w + column) bytes (length bytes) written_fits (omega arith)

  pub written_beside : (c : ℕ) → (c < column) ⊎ (column + length bytes ≤ c) → byte_at w (written w store p column bytes) p c ≡ byte_at w store p c
  written_beside c beside = written_out (p * w + c) (elim beside [ inl before ↦ inl (omega arith) | inr behind ↦ inr (omega arith) ])

  -- any other row keeps its bytes
  pub written_other : (q c : ℕ) → q ≢ p → c < w → byte_at w (written w store p column bytes) q c ≡ byte_at w store q c
  written_other q c other h =
      written_out (q * w + c) (elim (portion_apart w p q c other h) [ inl before ↦ inl (omega arith) | inr behind ↦ inr (omega arith) ])

-- row `source` copied to row `target`
module _ (w rows : ℕ) (store : List ℕ) (source target : ℕ) (sized : length store ≡ rows * w) (source-inside : source < rows) (target-inside : target < rows) where
  target_fits : target * w + w ≤ length store
  target_fits = omega (arith, portion_before w target rows target-inside)

  source_enough : w ≤ length (drop (source * w) store)
  source_enough = omega (arith, length-drop (source * w) store, portion_before w source rows source-inside)

  -- the target has the source's bytes
  pub copied_to : (c : ℕ) → c < w → byte_at w (copied w store source target) target c ≡ byte_at w store source c
  unfolding copied
  copied_to c h =
      paste_in store (target * w) (drop (source * w) store) w target_fits source_enough c h ∙ get_or-drop (source * w) store c 0

  pub length-copied : length (copied w store source target) ≡ length store
  unfolding copied
  length-copied = length-paste store (target * w) (drop (source * w) store) w target_fits source_enough

  -- any other row keeps its bytes (q may be behind the store's end)
  pub copied_other : (q c : ℕ) → q ≢ target → c < w → byte_at w (copied w store source target) q c ≡ byte_at w store q c
  unfolding copied
  copied_other q c other h =
      paste_out store (target * w) (drop (source * w) store) w target_fits source_enough (q * w + c) (portion_apart w target q c other h)
