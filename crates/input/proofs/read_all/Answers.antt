-- What a read gave stands behind what came before.
use Rattle.std.proofs.Common.{◌≡◌, ℕ, ◌+◌, ◌-◌, ◌≤◌, List, ◌++◌, length, take, drop}
use Rattle.std.proofs.Common.{arith, rules, refl, ap, sym, subst, ◌∙◌, le_refl, drop_at, length-take-le}
use Rattle.std.proofs.lemmas.Slice.{take-put_mid_below}
use Rattle.std.specs.Io.KnownBytes.{Consumes}
use Rattle.std.specs.Prelude.{Result, Ok, Err}
use Rattle.std.specs.declared.io.Error.{Error}
use Rattle.std.specs.declared.ops.ControlFlow.TheVariants.{Continue}
use Rattle.std.proofs.KnownBytes.{Consumes-trans}
use borrow.Rule.Slice.PartMut.{put_mid, post_of}
use lib.Seq.{take-add, take-append-le}
use Rattle.input.specs.Input.{next_of}
use Rattle.input.proofs.read_all.Goals as goal

-- the buffer's start, and n bytes of the part behind it
more_came : (a k n : ℕ) (xs part : List ℕ) → a ≤ length xs → n ≤ length part
    → take a xs ++ take n part ≡ take (a + n) (put_mid a k xs part)
more_came a k n xs part within fits =
    let all = put_mid a k xs part in
    let front : take a all ≡ take a xs = take-put_mid_below a k xs part a (le_refl a) within in
    let rest : take n (drop a all) ≡ take n part =
    ap (take n) (drop_at (take a xs) (part ++ post_of a k xs) a (length-take-le a xs within)) ∙ take-append-le n part (post_of a k xs) fits in
    sym (take-add a n all ∙ rw (front, rest) refl)

-- a read after which reading goes on gave so many bytes
went_on : (done : ℕ) (answer : Result ℕ Error) (k : ℕ) → Continue k ≡ next_of done answer → answer ≡ Ok k
unfolding next_of
went_on done (Err e) k h = cc
went_on done (Ok n) k h = grind arith

pub loop-done-preserved : goal.loop-done-preserved
loop-done-preserved g c =
    let done = c.loop-done.done in
    let xs = c.loop-done.buffer in
    let read = c.read-answer in
    let told = went_on done read.result c.in-Continue.count (sym c.in-Continue.is ∙ c.next.ensures) in
    let fits = rw told at read.ensures.bound in
    let bytes = rw told at read.ensures.bytes in
    let part = more_came done (length xs - done) c.in-Continue.count xs read.new.buf c.loop-done.invariant.within fits.0 in
    record {
      within = search rules;
      came = subst (Consumes _ _) part (Consumes-trans _ _ _ _ _ c.loop-done.invariant.came bytes.0);
    }
