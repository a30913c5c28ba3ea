-- Products that fit 64 bits, and a test by way of a difference. Assumes nothing.
use Prim.Native.Nat.{ℕ, ◌+◌, ◌-◌, ◌*◌, ◌≤◌}
use mathlib.Core.Path.{◌≡◌, sym, ◌∙◌}
use mathlib.Core.Logic.{inl, inr}
use native.Mathlib.Omega.{arith}
use native.Mathlib.Nat.{mul-le-mul}
use lib.Dec.{eqb}
use mir.Val.{Fits}
use mir.Syntax.{w64}
use borrow.Author.Tests.{eq-eqb, ne_eqb}
use Rattle.basics.proofs.Cases.{eq?}

-- a 32-bit number times one that is at most 2 ^ 32
pub product_fits : {x y : ℕ} → x ≤ 4294967295 → y ≤ 4294967296 → Fits w64 (x * y)
product_fits hx hy = record { fits = omega (arith, mul-le-mul hx hy) }

-- the test `whole - part = rest`, where the difference can be formed, is the test `whole = part + rest`
pub rest_is : (part whole rest : ℕ) → part ≤ whole → eqb (whole - part) rest ≡ eqb whole (part + rest)
rest_is part whole rest h =
    elim (eq? whole (part + rest)) [
      | inl e ↦ eq-eqb (whole - part) rest (omega arith) ∙ sym (eq-eqb whole (part + rest) e)
      | inr n ↦ ne_eqb (whole - part) rest (λ e. n (omega arith)) ∙ sym (ne_eqb whole (part + rest) n)
    ]
