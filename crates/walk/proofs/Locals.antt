-- The locals of a function by their numbers: their types, what they hold, and tests that compute.
-- Contents are a list with a value, or nothing, for each local in order; past its end nothing is held.
--     content i cs     what local i holds.        put i v cs     the same contents with v in local i
--     held vs          locals that hold vs, in order.        contents is cs     what the locals `is` hold
--     takes i τs v     of locals of the types τs there is one numbered i, and v is a value of its type
--     taken, arguments     the same of the locals `is` and values in order, and of the locals after the result
--     Each bs          each test of bs holds. As one test it is `conj bs`, whose proof, where all compute, is `tt`
-- Assumes nothing.
use mathlib.Core.Path.{◌≡◌, refl}
use Prim.Native.Nat.{ℕ, zero, suc}
use mathlib.Core.Bool.{Bool, true, false, ◌&&◌}
use mathlib.Core.Option.{Option, none, some}
use mathlib.Core.List.{List, [], ◌∷◌}
use lib.Dec.{T}
use lib.ListN.{get_or}
use mir.Syntax.{Ty, ty_enum, ttnil, Local, local}
use mir.Val.{Val, has_ty}

-- ---- types. An environment has the type and the block of each local; past its end the machine sees a type of no value
abbrev pub types_of : List (Ty × ℕ) → List Ty
types_of [] = []
types_of (l ∷ E) = l.0 ∷ types_of E

abbrev pub declared : List Local → List Ty
declared [] = []
declared (local τ h ∷ ls) = τ ∷ declared ls

abbrev pub local_at : List (Ty × ℕ) → ℕ → Ty × ℕ
local_at E i = get_or E i (ty_enum [] ttnil, zero)

abbrev pub type_at : List Ty → ℕ → Ty
type_at τs i = get_or τs i (ty_enum [] ttnil)

pub type-at : (E : List (Ty × ℕ)) (i : ℕ) → (local_at E i).0 ≡ type_at (types_of E) i
type-at [] i = refl
type-at (l ∷ E) zero = refl
type-at (l ∷ E) (suc i) = type-at E i

-- ---- contents
abbrev pub Contents : Type 0
Contents = List (Option Val)

abbrev pub first : Contents → Option Val
first [] = none
first (c ∷ cs) = c

abbrev pub later : Contents → Contents
later [] = []
later (c ∷ cs) = cs

abbrev pub content : ℕ → Contents → Option Val
content zero cs = first cs
content (suc i) cs = content i (later cs)

abbrev pub put : ℕ → Val → Contents → Contents
put zero v cs = some v ∷ later cs
put (suc i) v cs = first cs ∷ put i v (later cs)

abbrev pub held : List Val → Contents
held [] = []
held (v ∷ vs) = some v ∷ held vs

abbrev pub contents : List ℕ → Contents → Contents
contents [] cs = []
contents (i ∷ is) cs = content i cs ∷ contents is cs

pub content_put : (i : ℕ) (v : Val) (cs : Contents) → content i (put i v cs) ≡ some v
content_put zero v cs = refl
content_put (suc i) v cs = content_put i v (later cs)

abbrev pub differ : ℕ → ℕ → Bool
differ zero zero = false
differ zero (suc j) = true
differ (suc i) zero = true
differ (suc i) (suc j) = differ i j

pub content_other : (i j : ℕ) (v : Val) (cs : Contents) → T (differ i j) → content i (put j v cs) ≡ content i cs
content_other zero zero v cs d = absurd d
content_other zero (suc j) v cs d = refl
content_other (suc i) zero v cs d = refl
content_other (suc i) (suc j) v cs d = content_other i j v (later cs) d

-- ---- tests
abbrev pub takes : ℕ → List Ty → Val → Bool
takes i [] v = false
takes zero (τ ∷ τs) v = has_ty τ v
takes (suc i) (τ ∷ τs) v = takes i τs v

pub takes_at : (E : List (Ty × ℕ)) (i : ℕ) (v : Val) → T (takes i (types_of E) v) → T (has_ty (local_at E i).0 v)
takes_at [] i v t = absurd t
takes_at (l ∷ E) zero v t = t
takes_at (l ∷ E) (suc i) v t = takes_at E i v t

abbrev pub taken : List ℕ → List Ty → List Val → List Bool
taken [] τs [] = []
taken [] τs (v ∷ vs) = false ∷ []
taken (i ∷ is) τs [] = false ∷ []
taken (i ∷ is) τs (v ∷ vs) = takes i τs v ∷ taken is τs vs

abbrev pub fit : List Ty → List Val → List Bool
fit τs [] = []
fit [] (v ∷ vs) = false ∷ []
fit (τ ∷ τs) (v ∷ vs) = has_ty τ v ∷ fit τs vs

abbrev pub arguments : List Ty → List Val → List Bool
arguments [] vs = false ∷ []
arguments (τ ∷ τs) vs = fit τs vs

abbrev pub conj : List Bool → Bool
conj [] = true
conj (b ∷ bs) = b && conj bs

abbrev pub Each : List Bool → Type 0
Each [] = Unit {0}
Each (b ∷ bs) = T b × Each bs

pub apart : (bs : List Bool) → T (conj bs) → Each bs
apart [] h = tt
apart (true ∷ bs) h = (tt, apart bs h)
apart (false ∷ bs) h = absurd h
