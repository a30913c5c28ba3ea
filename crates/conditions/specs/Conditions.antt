-- Document 01, 'Settings and lengths memory' and the first three rows of 'Where each call can stop'.
-- Assumes nothing.
use Rattle.std.specs.Prelude.{ℕ, ◌+◌, ◌*◌, Bool, ◌&&◌, ltb, eqb}
use Rattle.geometry.specs.declared.Settings.{Settings}
use Rattle.geometry.specs.declared.Lengths.{Lengths}
use Rattle.basics.specs.Ranges.{in_range}

-- 'A | threshold | 1 to 65,535'
abbrev pub threshold_in_range : ℕ → Bool
threshold_in_range a = in_range 1 65535 a

-- the table of settings, and 'A new setting B, 1 to 16, stands last.' (document 02, Ask 5); its failure is number 1
unfoldable pub ranges_hold : Settings → Bool
ranges_hold S =
    in_range 1 60000 S.n
    && in_range 2 5500 S.q
    && in_range 1 8192 S.w
    && in_range 1 4096 S.k
    && threshold_in_range S.a
    && in_range 1 1360000 S.l
    && in_range 1 16 S.b

-- 'And L must be less than A × (K + 1).'; its failure is number 2. L is a bank's: 'L, the check behind 2 .. are per bank'
-- (document 02, Ask 5)
unfoldable pub limit_holds : Settings → Bool
limit_holds S = ltb S.l (S.a * (S.k + 1))

-- 'a store of (N + Q) × W bytes'
unfoldable pub store_holds : Settings → ℕ → Bool
store_holds S bytes = eqb bytes ((S.n + S.q) * S.w)

-- 'a store of (N + Q) × W bytes; a forward table of N 16-bit numbers and a reverse table of Q 16-bit numbers;
-- tracker rows (K 16-bit numbers) and tracker counts (K 32-bit numbers). Each has exactly that length.'; now 'Tracker
-- buffers hold B × K entries' (document 02, Ask 5). Its failure is number 3
unfoldable pub lengths_hold : Settings → Lengths → Bool
lengths_hold S lengths =
    store_holds S lengths.store
    && eqb lengths.forward S.n
    && eqb lengths.reverse S.q
    && eqb lengths.rows (S.b * S.k)
    && eqb lengths.counts (S.b * S.k)
