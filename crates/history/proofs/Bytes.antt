-- Each row's bytes stand at its place, whatever moves. Assumes nothing.
use Prim.Native.Nat.{ℕ, ◌+◌, ◌*◌, ◌<◌, ◌≤◌}
use native.Mathlib.Omega.{arith}
use mathlib.Core.Path.{◌≡◌, refl, sym, ◌∙◌}
use mathlib.Core.Logic.{◌⊎◌, inl, inr, ◌≢◌}
use mathlib.Core.List.{List}
use lib.ListN.{length, get_or-replicate}
use borrow.Author.Tests.{eq-eqb, ne_eqb, lt-ltb, le-ltb, le-leb, lt-leb}
use Rattle.geometry.specs.declared.Settings.{Settings}
use Rattle.geometry.specs.Entry.{empty}
use Rattle.basics.proofs.Cases.{eq?, lt?}
use Rattle.row_layout.specs.Bytes.{row_bytes, written}
use Rattle.row_layout.proofs.Laws.{byte_at, length-row_bytes, row_bytes_at, written_in, written_beside, written_other}
use Rattle.engine.specs.declared.Move.{Move}
use Rattle.engine.specs.State.{State, forward_of}
use Rattle.engine.specs.Steps.{place, settled}
use Rattle.engine.specs.Calls as calls
use Rattle.history.specs.Demand2.{Memory, standing, overwritten, IsRow}
use Rattle.engine.proofs.Pointers.{Sound, marks_none, place_is, place-in, apart}
use Rattle.engine.proofs.Moves.{Moved, not_home, Fate, stays, goes, ousts}

-- each row's bytes stand at its place (store: the store to look in; places by the tables of σ)
abbrev pub Stands : Settings → State → List ℕ → Memory → Type 0
Stands S σ store mem = (x c : ℕ) → x < S.n → c < S.w → byte_at S.w store (place S σ x) c ≡ mem x c

-- at set-up every row is at home
pub stands_new : (S : Settings) (σ : State) → Stands S (calls.cleared S σ) σ.store (standing S σ)
stands_new S σ x c x_in c_in = rw (get_or-replicate S.n x empty empty x_in) refl

module _ (S : Settings) (σ : State) (sound : Sound S σ) where
  -- two rows have two places
  places_apart : (x r : ℕ) → x < S.n → r < S.n → x ≢ r → place S σ x ≢ place S σ r
  places_apart x r x_in r-in n e =
      elim (place_is S σ sound x x_in) [
        | inl a ↦ elim (place_is S σ sound r r-in) [ inl b ↦ n (sym a.1 ∙ e ∙ b.1) | inr b ↦ omega (arith, a.1, b.1) ]
        | inr a ↦ elim (place_is S σ sound r r-in) [
          | inl b ↦ omega (arith, a.1, b.1)
          | inr b ↦
              apart S σ sound r r-in x x_in n (marks_none S sound.ranges (forward_of σ x) (omega (arith, a.0))) (omega (arith, a.1, b.1))
        ]
      ]

  -- a row in another slot than d, or in none, is not in slot d
  not_slot : (x d : ℕ) → x < S.n → forward_of σ x ≢ d → place S σ x ≢ S.n + d
  not_slot x d x_in n e = elim (place_is S σ sound x x_in) [ inl a ↦ omega (arith, a.1) | inr a ↦ n (omega (arith, a.1)) ]

  module _ (r : ℕ) (row_in : r < S.n) where
    p_in : place S σ r < S.n + S.q
    p_in = place-in S σ sound r row_in

    -- the bytes read at a row's place are the row's
    pub row_returned : (mem : Memory) → Stands S σ σ.store mem → IsRow S mem r (row_bytes S.w σ.store (place S σ r))
    row_returned mem st =
        record {
          long = length-row_bytes S.w (S.n + S.q) σ.store (place S σ r) sound.lengths.store p_in;
          same = λ c c_in. row_bytes_at S.w σ.store (place S σ r) c c_in ∙ st r c row_in c_in;
        }

    -- a write into row r: rows in other places keep their bytes
    pub stands_written : (mem : Memory) → Stands S σ σ.store mem → (column : ℕ) (bytes : List ℕ) → column + length bytes ≤ S.w
        → Stands S σ (written S.w σ.store (place S σ r) column bytes) (overwritten mem r column bytes)
    stands_written mem st column bytes fits x c x_in c_in =
        let p : ℕ = place S σ r in
        let long : length σ.store ≡ (S.n + S.q) * S.w = sound.lengths.store in
        let beside : (c < column) ⊎ (column + length bytes ≤ c) → byte_at S.w (written S.w σ.store p column bytes) p c ≡ mem r c =
        λ out. written_beside S.w (S.n + S.q) σ.store p column bytes long p_in fits c out ∙ st r c row_in c_in in
        elim (eq? x r) [
          | inl e ↦ elim (lt? c column) [
            | inl before ↦ rw (e, eq-eqb r r refl, lt-leb column c before) (beside (inl before))
            | inr low ↦ elim (lt? c (column + length bytes)) [
              | inl high ↦
                  rw (e, eq-eqb r r refl, le-leb column c low, lt-ltb c (column + length bytes) high)
                  (written_in S.w (S.n + S.q) σ.store p column bytes long p_in fits c low high)
              | inr behind ↦ rw (e, eq-eqb r r refl, le-leb column c low, le-ltb c (column + length bytes) behind) (beside (inr behind))
            ]
          ]
          | inr n ↦
              rw (ne_eqb x r n)
              (written_other S.w (S.n + S.q) σ.store p column bytes long p_in fits (place S σ x) c (places_apart x r x_in row_in n) c_in ∙ st x c x_in c_in)
        ]

    -- row r goes to slot d: each row's bytes stand at its new place (store: the store after step 3)
    stands_moved : (d : ℕ) (store : List ℕ) (σ' : State) → Moved S σ r store d σ' → (mem : Memory) → Stands S σ store mem → Stands S σ' σ'.store mem
    stands_moved d store σ' M mem st x c x_in c_in =
        let full : d ≢ empty = marks_none S sound.ranges d (omega (arith, M.slide.inside)) in
        elim (eq? x r) [
          | inl e ↦ rw (e, M.links.mover, ne_eqb d empty full) (M.bytes.target c c_in ∙ st r c row_in c_in)
          | inr n ↦ elim (eq? (forward_of σ x) d) [
            | inl at ↦
                let old : byte_at S.w store (S.n + d) c ≡ mem x c = rw (at, ne_eqb d empty full) at (st x c x_in c_in) in
                rw (M.links.evicted x x_in n at) (M.bytes.home x c x_in at c_in ∙ old)
            | inr off ↦
                rw (M.links.rest x x_in n off)
                (M.bytes.rest (place S σ x) c (not_slot x d x_in off) (not_home S σ sound x x_in d off) c_in ∙ st x c x_in c_in)
          ]
        ]

    pub stands_settled : (store : List ℕ) (m : Move) → Fate S σ sound r row_in store m → (mem : Memory) → Stands S σ store mem
        → Stands S (settled S σ r store m) (settled S σ r store m).store mem
    stands_settled store m (stays e) mem st = st
    stands_settled store m (goes e d vacant M) mem st = stands_moved d store (settled S σ r store m) M mem st
    stands_settled store m (ousts e d v held v-in back M) mem st = stands_moved d store (settled S σ r store m) M mem st
