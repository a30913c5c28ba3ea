-- Slots round Q, defined without the memory: the tally may name these too.
-- Assumes nothing.
use Rattle.std.specs.Prelude.{ℕ, zero, suc, ◌+◌, ◌-◌, ◌%◌, Bool, cond}
use Rattle.geometry.specs.declared.Settings.{Settings}

-- of k slots from s on, round q, how many are skipped before the first that is not; all k where there is none such
unfoldable pub skipped_of : (ℕ → Bool) → ℕ → ℕ → ℕ → ℕ
skipped_of skip q zero s = 0
skipped_of skip q (suc k) s = cond (skip s) (suc (skipped_of skip q k ((s + 1) % q))) 0

-- 'The destination is the first slot from `head` on that isn't passed' (document 02, Ask 4; over: how many are skipped; Q of
-- them where there is no such slot, and then 9 is answered)
unfoldable pub destination_from : Settings → ℕ → ℕ → ℕ
destination_from S head over = (head + over) % S.q

-- '`passed` rises by the slots passed plus one', computed from the destination d: the slots from `head` to d, d among
-- them
-- (`rise_is` of proofs/Moves.antt: where there is a destination, the two are the same)
unfoldable pub rise_to : Settings → ℕ → ℕ → ℕ
rise_to S head d = (d + S.q - head) % S.q + 1
