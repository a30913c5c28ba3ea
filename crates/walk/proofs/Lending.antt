-- Slices that a function was passed and lends on: a `&mut [T]` is taken apart, and a slice of the same place made anew.
--     relends ls       the code that does so for each of ls, as the compiler writes it.        relent     its rule
--     sources          what is known of each slice when its turn comes.        wanted     what must be: it is a slice
--     lendable         what is tested: the locals take the values, and the address is not stored over the source
-- Of a function that is written out, the rule's hypotheses are shown by computation.
-- Assumes `Logic`.
use mathlib.Core.Path.{◌≡◌, refl, ap, ◌∙◌}
use Prim.Native.Nat.{ℕ}
use mathlib.Core.Bool.{Bool}
use mathlib.Core.Option.{Option, none, some}
use mathlib.Core.List.{List, [], ◌∷◌}
use seplogic.Ra.Ura.{Ura}
use lib.ListN.{get_or, drop}
use mir.Syntax.{named, mut, Ty, ty_ref, ty_unit, deref, field, place, Opd as Operand, copy, addr_of, aggregate, Body}
use mir.Syntax.{seq, assign}
use mir.Val.{Val, vptr}
use prog.Memory.{field_of}
use prog.Wp.{Env, Calls, Loops}
use types.Logic.{Logic}
use types.Kit.{Item, Post, runs, Step, step, ◌$◌}
use types.Run.{stop, hop, fld, from, load, addr, and_then, no_more, assigns}
use types.Part.{agg, sub, look_in}
use denote.Slice.{slice_ty, slice_val}
use Rattle.walk.proofs.Locals.{types_of, local_at, type_at, type-at, Contents, content, put, differ}
use Rattle.walk.proofs.Locals.{content_put, content_other, takes, Each}
use Rattle.walk.proofs.Cells.{locals, local-at, sets, typed_in}

pub record Lend : Type 0 where
  pub source : ℕ  -- the local of the slice that was passed
  pub address : ℕ  -- the local of the address of its first element
  pub slice : ℕ  -- the local of the slice that is lent on
  pub lifetime : ℕ  -- the number of the lifetime at which it was passed
  pub target : Ty  -- the type of its elements, as its own type names it
  pub element : Ty  -- and spelled out

-- a slice: where it lies, and how many elements it has
pub record Slice : Type 0 where
  pub start : ℕ × ℕ
  pub size : ℕ

abbrev pub Slices : List Lend → Type 0
Slices [] = Unit {0}
Slices (l ∷ ls) = Slice × Slices ls

abbrev address_of : Slice → Val
address_of x = vptr x.start.0 x.start.1

abbrev value_of : Slice → Val
value_of x = slice_val x.start x.size

abbrev type_of : Lend → Ty
type_of l = slice_ty (ty_ref (named l.lifetime) mut l.target)

abbrev pub relends : List Lend → Body → Body
relends [] rest = rest
relends (l ∷ ls) rest =
    let size : Operand = copy (place l.source (field 1 ∷ [])) in
    seq (assign (place l.address []) (addr_of (place l.source (field 0 ∷ deref l.element ∷ []))))
    (seq (assign (place l.slice []) (aggregate (copy (place l.address []) ∷ size ∷ [])))
    (relends ls rest))

-- what the locals hold once a slice is lent on, and all
abbrev lent : Lend → Slice → Contents → Contents
lent l x cs = put l.slice (value_of x) (put l.address (address_of x) cs)

abbrev pub all_lent : (ls : List Lend) → Slices ls → Contents → Contents
all_lent [] xs cs = cs
all_lent (l ∷ ls) xs cs = all_lent ls xs.1 (lent l xs.0 cs)

-- ---- the hypotheses
abbrev Known : Type 0
Known = List (Ty × Option Val)

abbrev pub sources : (ls : List Lend) → Slices ls → List Ty → Contents → Known
sources [] xs τs cs = []
sources (l ∷ ls) xs τs cs = (type_at τs l.source, content l.source cs) ∷ sources ls xs.1 τs (lent l xs.0 cs)

abbrev pub wanted : (ls : List Lend) → Slices ls → Known
wanted [] xs = []
wanted (l ∷ ls) xs = (type_of l, some (value_of xs.0)) ∷ wanted ls xs.1

abbrev pub lendable : (ls : List Lend) → Slices ls → List Ty → List Bool
lendable [] xs τs = []
lendable (l ∷ ls) xs τs =
    let v : Val = value_of xs.0 in
    takes l.source τs v ∷ takes l.address τs (address_of xs.0) ∷ takes l.slice τs v
    ∷ differ l.source l.address ∷ lendable ls xs.1 τs

-- ---- the rule
module _ {M : Type 1} {𝓤 : Ura M} {𝓛 : Logic 𝓤} {K : Type 0} {Γ : List (Item 𝓤)}
    {C : Calls 𝓤 𝓛.H} {Λ : Loops 𝓤 𝓛.H} {q : Post 𝓤 𝓛.H} (E : Env 𝓤 𝓛.H) where
  relent_one : K → {rest : Body} (l : Lend) (x : Slice) (cs : Contents) → Each (lendable (l ∷ []) (x, tt) (types_of E))
      → (local_at E l.source).0 ≡ type_of l → content l.source cs ≡ some (value_of x)
      → Step K 𝓛 (locals 𝓛 E (lent l x cs) ∷ Γ) (runs C Λ E rest q)
      (locals 𝓛 E cs ∷ Γ) (runs C Λ E (relends (l ∷ []) rest) q)
  relent_one t l x cs ok type e =
      let p : Val = address_of x in
      let v : Val = value_of x in
      let ds : Contents = put l.address p cs in
      let e' : content l.source ds ≡ some v = content_other l.source l.address p cs ok.1.1.1.0 ∙ e in
      let was = local-at t E l.source (type_of l) v cs type ok.0 e in
      let is = local-at t E l.source (type_of l) v ds type ok.0 e' in
      let to = local-at t E l.address (local_at E l.address).0 p ds refl ok.1.0
      (content_put l.address p cs) in
      let field_at : (k : ℕ) → field_of (local_at E l.source).0 k ≡ field_of (type_of l) k =
      λ k. ap (λ (τ : Ty). field_of τ k) type in
      step (λ s. typed_in t was (λ wt.
      assigns t (addr t (from t (fld t (field_at 0) (hop t (look_in t 0 (sub t 0 refl was)) (stop t)))))
      (from t (stop t)) (sets t E l.address p cs ok.1.0 tt) $
      assigns t (agg t (and_then t (load t (from t (stop t)) (look_in t 0 to))
      (and_then t (load t (from t (fld t (field_at 1) (stop t))) (look_in t 0 (sub t 1 refl is))) (no_more t))))
      (from t (stop t)) (sets t E l.slice v ds ok.1.1.0 wt.1) $ s))

  pub relent : K → {rest : Body} (ls : List Lend) (xs : Slices ls) (cs : Contents) → Each (lendable ls xs (types_of E))
      → sources ls xs (types_of E) cs ≡ wanted ls xs
      → Step K 𝓛 (locals 𝓛 E (all_lent ls xs cs) ∷ Γ) (runs C Λ E rest q)
      (locals 𝓛 E cs ∷ Γ) (runs C Λ E (relends ls rest) q)
  relent t [] xs cs ok e = step (λ s. s)
  relent t (l ∷ ls) xs cs ok e =
      let first : Known → Ty × Option Val = λ ys. get_or ys 0 (ty_unit, none) in
      step (λ s. relent_one t l xs.0 cs (ok.0, (ok.1.0, (ok.1.1.0, (ok.1.1.1.0, tt))))
      (type-at E l.source ∙ ap (λ (ys : Known). (first ys).0) e) (ap (λ (ys : Known). (first ys).1) e) $
      relent t ls xs.1 (lent l xs.0 cs) ok.1.1.1.1 (ap (drop 1) e) $ s)
