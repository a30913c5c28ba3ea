-- What an entry stores in the record behind its `&mut` once the core has answered, as a list of stores. Each copies a part
-- of the answer, a number or a struct:
--     plain to from            to the record's part `to`: `x.a = t.b.c`, or `*x = t.b` where `to` is empty
--     indexed to n index from  to an element of the array of n there, whose number is another part of the answer:
--                              `x.a[t.i] = t.b`, where an element has more than one byte
--     moved, moved_at          the same two as the compiler writes them: what is stored, and the index, are copied into
--                              locals of their own first
-- An `indexed` scales its index in one local for all, and takes two more: where the array begins, and where the element
-- lies. A `moved` takes one local, and a `moved_at` five: for what is stored, the index, the index scaled, and those two.
--     storing          the code of the stores.        stored       the record's value after them
--     Alike            what is stored is of the type of what was there.        Within       each index is within its array
--     tests            what else the rule for them, `stores`, asks: tests that compute
-- Assumes `Logic`.
use mathlib.Core.Path.{◌≡◌, refl, sym, ap, subst, ◌∙◌}
use Prim.Native.Nat.{ℕ, zero, suc, ◌+◌, ◌*◌, ◌^◌, ◌<◌}
use native.Mathlib.Nat.{le_of_lt, lt_of_le_of_lt, mul-le-mul_right}
use mathlib.Core.Bool.{Bool, false}
use mathlib.Core.Option.{some}
use mathlib.Core.List.{List, [], ◌∷◌}
use seplogic.Ra.Ura.{Ura}
use base.Fraction.{full_share}
use lib.Dec.{T, ltb, ltb→lt}
use mir.Syntax.{Ty, ty_int, w64, ty_array, deref, place, int, copy, rv_opd, op2, mul, unsigned, offset, addr_of, Body, seq, assign}
use mir.Raw.{raw as raw_ty}
use mir.Val.{Val, vunit, vbool, vint, vfloat, vptr, vcode, vstruct, Fits as Number, has_ty}
use mir.Code.{same_ty, same_ty→eq}
use mir.ValLaws.{eq_w→eq}
use mir.Fields.{set_v}
use base.Fml.{fat}
use prog.Memory.{size}
use prog.Wp.{Env, Calls, Loops}
use types.Logic.{Logic}
use types.Kit.{Item, ‵, Post, runs, Sq, Go, !, ◌$◌}
use types.Run.{stop, from as of-local, lit, bin, addr, of_opd, assigns}
use types.Part.{Part, store_in}
use Rattle.walk.proofs.Locals.{types_of, local_at, Contents, content, put, content_put, differ, content_other}
use Rattle.walk.proofs.Locals.{takes, conj, Each, apart}
use Rattle.walk.proofs.Cells.{locals, local-at, sets, typed_in, behind}
use Rattle.walk.proofs.Parts.{fields_of, is_struct, part, changed, type_to, offset_to, leads, steps, the_part}
use Rattle.walk.proofs.Parts.{behind_raw, along, at_index, at_part, part_of}
use Rattle.walk.proofs.Spelled.{Fits}

pub data Store : Type 0 where
  plain : (to from : List ℕ) → Store
  indexed : (to : List ℕ) (n : ℕ) (index from : List ℕ) → Store
  moved : (to from : List ℕ) → Store
  moved_at : (to : List ℕ) (n : ℕ) (index from : List ℕ) → Store

-- ---- the locals after m, by suc, which computes at any m
abbrev past_two : ℕ → ℕ
past_two m = suc (suc m)

abbrev past_three : ℕ → ℕ
past_three m = suc (past_two m)

abbrev past_four : ℕ → ℕ
past_four m = suc (past_three m)

abbrev past_five : ℕ → ℕ
past_five m = suc (past_four m)

-- ---- a local of the type σ
abbrev typed_as : ℕ → List Ty → Ty → Bool
typed_as i [] σ = false
typed_as zero (τ ∷ τs) σ = same_ty τ σ
typed_as (suc i) (τ ∷ τs) σ = typed_as i τs σ

takes_as : (i : ℕ) (τs : List Ty) (σ : Ty) (v : Val) → T (typed_as i τs σ) → T (has_ty σ v) → T (takes i τs v)
takes_as i [] σ v t h = absurd t
takes_as zero (τ ∷ τs) σ v t h = subst (λ (ρ : Ty). T (has_ty ρ v)) (sym (same_ty→eq τ σ t)) h
takes_as (suc i) (τ ∷ τs) σ v t h = takes_as i τs σ v t h

-- ---- indices
abbrev pub number : Val → ℕ
number vunit = zero
number (vbool b) = zero
number (vint w n) = n
number (vfloat f x) = zero
number (vptr b o) = zero
number (vcode t) = zero
number (vstruct vs) = zero

is_number : (v : Val) → T (has_ty (ty_int w64) v) → v ≡ vint w64 (number v)
is_number vunit h = absurd h
is_number (vbool b) h = absurd h
is_number (vint w n) h = ap (λ w. vint w n) (sym (eq_w→eq w64 w h))
is_number (vfloat f x) h = absurd h
is_number (vptr b o) h = absurd h
is_number (vcode t) h = absurd h
is_number (vstruct vs) h = absurd h

-- ---- X, Y: the types of the record and the answer; answer: the answer's local; k: the local of an index, scaled; m: the
-- next local that is free
module _ (X Y : Ty) where
  -- where an element of s bytes lies goes into the local after m
  abbrev addressing : (answer k m : ℕ) (to index : List ℕ) → ℕ → Body → Body
  addressing answer k m to index s rest =
      seq (assign (place k []) (op2 (mul unsigned) (the_part answer index) (int w64 s)))
      (seq (assign (place m []) (addr_of (place 1 (deref X ∷ steps to))))
      (seq (assign (place (suc m) []) (op2 offset (copy (place m [])) (copy (place k [])))) rest))

  abbrev pub storing : (answer k m : ℕ) → List Store → Body → Body
  storing answer k m [] rest = rest
  storing answer k m (plain to from ∷ ss) rest =
      seq (assign (place 1 (deref X ∷ steps to)) (rv_opd (the_part answer from))) (storing answer k m ss rest)
  storing answer k m (indexed to n index from ∷ ss) rest =
      addressing answer k m to index (size (type_to from Y))
      (seq (assign (place (suc m) (deref (type_to from Y) ∷ [])) (rv_opd (the_part answer from)))
      (storing answer k (suc (suc m)) ss rest))
  storing answer k m (moved to from ∷ ss) rest =
      seq (assign (place m []) (rv_opd (the_part answer from)))
      (seq (assign (place 1 (deref X ∷ steps to)) (rv_opd (the_part m []))) (storing answer k (suc m) ss rest))
  storing answer k m (moved_at to n index from ∷ ss) rest =
      seq (assign (place m []) (rv_opd (the_part answer from)))
      (seq (assign (place (suc m) []) (rv_opd (the_part answer index)))
      (addressing (suc m) (past_two m) (past_three m) to [] (size (type_to from Y))
      (seq (assign (place (past_four m) (deref (type_to from Y) ∷ [])) (rv_opd (the_part m [])))
      (storing answer k (past_five m) ss rest))))

  abbrev pub Alike : List Store → Type 0
  Alike [] = Unit {0}
  Alike (plain to from ∷ ss) = (type_to from Y ≡ type_to to X) × Alike ss
  Alike (indexed to n index from ∷ ss) = (type_to to X ≡ ty_array (type_to from Y) n) × Alike ss
  Alike (moved to from ∷ ss) = (type_to from Y ≡ type_to to X) × Alike ss
  Alike (moved_at to n index from ∷ ss) = (type_to to X ≡ ty_array (type_to from Y) n) × Alike ss

-- where the locals of the stores begin: k, or after it where an `indexed` scales its index there
abbrev pub begun : ℕ → List Store → ℕ
begun k [] = k
begun k (plain to from ∷ ss) = begun k ss
begun k (indexed to n index from ∷ ss) = suc k
begun k (moved to from ∷ ss) = begun k ss
begun k (moved_at to n index from ∷ ss) = begun k ss

-- ---- the locals of an index, scaled in k: local i is none of the three
abbrev spared : (k m i : ℕ) → List Bool
spared k m i = differ i k ∷ differ i m ∷ differ i (suc m) ∷ []

-- these take the number j of bytes before the element, where its array begins, and where it lies; a: the local of the value
-- that holds the index
abbrev taken : (τs : List Ty) (b a k m j p : ℕ) → List Bool
taken τs b a k m j p =
    takes k τs (vint w64 j) ∷ takes m τs (vptr b p) ∷ takes (suc m) τs (vptr b (j + p)) ∷ differ k m
    ∷ conj (spared k m a) ∷ conj (spared k m 1) ∷ []

-- ---- v: the answer's value; w: the record's
module _ (v : Val) where
  abbrev pub Within : List Store → Type 0
  Within [] = Unit {0}
  Within (plain to from ∷ ss) = Within ss
  Within (indexed to n index from ∷ ss) = (number (part index v) < n) × Within ss
  Within (moved to from ∷ ss) = Within ss
  Within (moved_at to n index from ∷ ss) = (number (part index v) < n) × Within ss

  abbrev after : Store → Val → Val
  after (plain to from) w = changed to w (part from v)
  after (indexed to n index from) w =
      changed to w (vstruct (set_v (fields_of (part to w)) (number (part index v)) (part from v)))
  after (moved to from) w = changed to w (part from v)
  after (moved_at to n index from) w =
      changed to w (vstruct (set_v (fields_of (part to w)) (number (part index v)) (part from v)))

  abbrev pub stored : List Store → Val → Val
  stored [] w = w
  stored (s ∷ ss) w = stored ss (after s w)

  -- τs: the locals' types; b, o: where the record lies
  module _ (X Y : Ty) (answer k : ℕ) (τs : List Ty) (b o : ℕ) where
    -- what is stored, of the type σ, goes into local m, and its index u into the next; the locals that are read keep theirs
    abbrev lodged : ℕ → Ty → Val → List Bool
    lodged m σ u =
        typed_as m τs σ ∷ takes (suc m) τs u ∷ differ answer m ∷ differ answer (suc m) ∷ differ 1 m ∷ differ 1 (suc m)
        ∷ differ m (suc m) ∷ conj (spared (past_two m) (past_three m) answer) ∷ conj (spared (past_two m) (past_three m) m) ∷ []

    abbrev pub tests : ℕ → List Store → Val → List Bool
    tests m [] w = []
    tests m (plain to from ∷ ss) w =
        conj (leads to X w) ∷ conj (leads from Y v) ∷ tests m ss (after (plain to from) w)
    tests m (indexed to n index from ∷ ss) w =
        let s : ℕ = size (type_to from Y) in
        conj (leads to X w) ∷ conj (leads from Y v)
        ∷ conj (is_struct (part to w) ∷ ltb (n * s) (2 ^ 64) ∷ ltb s (2 ^ 64) ∷ has_ty (ty_int w64) (part index v) ∷ [])
        ∷ conj (leads index Y v) ∷ conj (taken τs b answer k m (number (part index v) * s) (offset_to to X o))
        ∷ tests (suc (suc m)) ss (after (indexed to n index from) w)
    tests m (moved to from ∷ ss) w =
        conj (leads to X w) ∷ conj (leads from Y v)
        ∷ conj (typed_as m τs (type_to from Y) ∷ differ answer m ∷ differ 1 m ∷ [])
        ∷ tests (suc m) ss (after (moved to from) w)
    tests m (moved_at to n index from ∷ ss) w =
        let s : ℕ = size (type_to from Y) in
        conj (leads to X w) ∷ conj (leads from Y v)
        ∷ conj (is_struct (part to w) ∷ ltb (n * s) (2 ^ 64) ∷ ltb s (2 ^ 64) ∷ has_ty (ty_int w64) (part index v) ∷ [])
        ∷ conj (leads index Y v) ∷ conj (lodged m (type_to from Y) (part index v))
        ∷ conj (taken τs b (suc m) (past_two m) (past_three m) (number (part index v) * s) (offset_to to X o))
        ∷ tests (past_five m) ss (after (moved_at to n index from) w)

-- ---- the rule
module _ {M : Type 1} {𝓤 : Ura M} (𝓛 : Logic 𝓤) (C : Calls 𝓤 𝓛.H) (Λ : Loops 𝓤 𝓛.H) (E : Env 𝓤 𝓛.H)
    (X Y : Ty) (answer k : ℕ) (v : Val) (b o : ℕ) (type : (local_at E answer).0 ≡ Y) (holds : T (takes answer (types_of E) v))
    (points : T (takes 1 (types_of E) (vptr b o))) where
  open 𝓛 use {H}

  -- the answer and the reference are in their locals
  abbrev There : Contents → Type 0
  There cs = (content answer cs ≡ some v) × (content 1 cs ≡ some (vptr b o))

  -- the place of an element of s bytes, in the array at the record's part `to`
  module _ (to index : List ℕ) (s m : ℕ) (w : Val) (cs : Contents) where
    abbrev j : ℕ
    j = number (part index v) * s

    abbrev p : ℕ
    p = offset_to to X o

    -- what the locals hold after each of the three statements
    abbrev cs₁ : Contents
    cs₁ = put k (vint w64 j) cs

    abbrev cs₂ : Contents
    cs₂ = put m (vptr b p) cs₁

    abbrev cs₃ : Contents
    cs₃ = put (suc m) (vptr b (j + p)) cs₂

    kept : (i : ℕ) → Each (spared k m i) → content i cs₃ ≡ content i cs
    kept i other =
        content_other i (suc m) (vptr b (j + p)) cs₂ other.1.1.0 ∙ content_other i m (vptr b p) cs₁ other.1.0
        ∙ content_other i k (vint w64 j) cs other.0

    addressed : Each (leads to X w) → Each (leads index Y v) → T (has_ty (ty_int w64) (part index v)) → T (ltb s (2 ^ 64))
        → Number w64 j → Each (taken (types_of E) b answer k m j p) → There cs
        → {q : Post 𝓤 H} {rest : Body} {Γ : List (Item 𝓤)}
        → (There cs₃ → content (suc m) cs₃ ≡ some (vptr b (j + p)) → Sq 𝓛 (locals 𝓛 E cs₃ ∷ Γ) (runs C Λ E rest q))
        → Sq 𝓛 (locals 𝓛 E cs ∷ Γ) (runs C Λ E (addressing X Y answer k m to index s rest) q)
    addressed there given whole small fits own at next =
        let others = apart (spared k m 1) own.1.1.1.1.1.0 in
        let answers = apart (spared k m answer) own.1.1.1.1.0 in
        let at₁ = content_other 1 k (vint w64 j) cs others.0 ∙ at.1 in
        let begins = content_put m (vptr b p) cs₁ in
        let scaled = content_other k m (vptr b p) cs₁ own.1.1.1.0 ∙ content_put k (vint w64 j) cs in
        assigns ! (bin ! (part_of E ! answer index Y v cs type given holds at.0 (is_number (part index v) whole))
        (lit ! small) fits) (of-local ! (stop !)) (sets ! E k (vint w64 j) cs own.0 fits) $
        assigns ! (addr ! (behind E ! 1 b o cs₁ points at₁ (at_part ! to X w there))) (of-local ! (stop !))
        (sets ! E m (vptr b p) cs₁ own.1.0 tt) $
        assigns ! (bin ! (part_of E ! m [] (local_at E m).0 (vptr b p) cs₂ refl tt own.1.0 begins refl)
        (part_of E ! k [] (local_at E k).0 (vint w64 j) cs₂ refl tt own.0 scaled refl) tt) (of-local ! (stop !))
        (sets ! E (suc m) (vptr b (j + p)) cs₂ own.1.1.0 tt) $
        next (kept answer answers ∙ at.0, kept 1 others ∙ at.1) (content_put (suc m) (vptr b (j + p)) cs₂)

module _ {M : Type 1} {𝓤 : Ura M} (𝓛 : Logic 𝓤) (C : Calls 𝓤 𝓛.H) (Λ : Loops 𝓤 𝓛.H) (E : Env 𝓤 𝓛.H)
    (X Y : Ty) (answer k : ℕ) (v : Val) (b o : ℕ) (type : (local_at E answer).0 ≡ Y) (holds : T (takes answer (types_of E) v))
    (points : T (takes 1 (types_of E) (vptr b o))) where
  open 𝓛 use {H}

  -- the record's cell
  abbrev Cell : Val → Item 𝓤
  Cell w = ‵ (fat full_share (raw_ty X) b o w)

  -- the answer and the reference are in their locals
  abbrev Holds : Contents → Type 0
  Holds cs = There 𝓛 C Λ E X Y answer k v b o type holds points cs

  pub stores : (ss : List Store) (m : ℕ) (w : Val) (cs : Contents) → Alike X Y ss → Within v ss
      → Each (tests v X Y answer k (types_of E) b o m ss w) → Holds cs → {q : Post 𝓤 H} {rest : Body} {Γ : List (Item 𝓤)}
      → ((cs' : Contents) → content answer cs' ≡ some v
      → Sq 𝓛 (locals 𝓛 E cs' ∷ Cell (stored v ss w) ∷ Γ) (runs C Λ E rest q))
      → Sq 𝓛 (locals 𝓛 E cs ∷ Cell w ∷ Γ) (runs C Λ E (storing X Y answer k m ss rest) q)
  stores [] m w cs alike within ok at next = next cs at.0
  stores (plain to from ∷ ss) m w cs alike within ok at next =
      let there = apart (leads to X w) ok.0 in
      let given = apart (leads from Y v) ok.1.0 in
      typed_in ! (along ! from Y v given (local-at ! E answer Y v cs type holds at.0)) (λ fits.
      assigns ! (of_opd ! (part_of E ! answer from Y v cs type given holds at.0 refl))
      (behind E ! 1 b o cs points at.1 (at_part ! to X w there))
      (store_in ! 1 (along ! to X w there (behind_raw !)) (subst (λ (σ : Ty). Fits σ (part from v)) alike.0 fits)) $
      stores ss m (after v (plain to from) w) cs alike.1 within ok.1.1 at next)
  stores (indexed to n index from ∷ ss) m w cs alike within ok at next =
      let s : ℕ = size (type_to from Y) in
      let i : ℕ = number (part index v) in
      let p : ℕ = offset_to to X o in
      let there = apart (leads to X w) ok.0 in
      let given = apart (leads from Y v) ok.1.0 in
      let fine = apart (is_struct (part to w) ∷ ltb (n * s) (2 ^ 64) ∷ ltb s (2 ^ 64) ∷ has_ty (ty_int w64) (part index v) ∷ [])
      ok.1.1.0 in
      let own = apart (taken (types_of E) b answer k m (i * s) p) ok.1.1.1.1.0 in
      let small : i * s < 2 ^ 64 =
      lt_of_le_of_lt (mul-le-mul_right s (le_of_lt within.0)) (ltb→lt (n * s) (2 ^ 64) fine.1.0) in
      addressed 𝓛 C Λ E X Y answer k v b o type holds points to index s m w cs there (apart (leads index Y v) ok.1.1.1.0)
      fine.1.1.1.0 fine.1.1.0 (record { fits = small }) own at (λ at₃ lies.
      let cs₃ : Contents = cs₃ 𝓛 C Λ E X Y answer k v b o type holds points to index s m w cs in
      typed_in ! (along ! from Y v given (local-at ! E answer Y v cs₃ type holds at₃.0)) (λ fits.
      assigns ! (of_opd ! (part_of E ! answer from Y v cs₃ type given holds at₃.0 refl))
      (behind E ! (suc m) b (i * s + p) cs₃ own.1.1.0 lies (stop !))
      (store_in ! 1 (at_index ! (part to w) i fine.0 within.0
      (subst (λ (σ : Ty). Part (Go {0}) 𝓛 (Cell w) full_share σ b p (part to w) (λ u. Cell (changed to w u))) alike.0
      (along ! to X w there (behind_raw !)))) fits) $
      stores ss (suc (suc m)) (after v (indexed to n index from) w) cs₃ alike.1 within.1 ok.1.1.1.1.1 at₃ next))
  stores (moved to from ∷ ss) m w cs alike within ok at next =
      let u : Val = part from v in
      let there = apart (leads to X w) ok.0 in
      let given = apart (leads from Y v) ok.1.0 in
      let own = apart (typed_as m (types_of E) (type_to from Y) ∷ differ answer m ∷ differ 1 m ∷ []) ok.1.1.0 in
      let cs' : Contents = put m u cs in
      let at' : Holds cs' = (content_other answer m u cs own.1.0 ∙ at.0, content_other 1 m u cs own.1.1.0 ∙ at.1) in
      typed_in ! (along ! from Y v given (local-at ! E answer Y v cs type holds at.0)) (λ fits.
      let lodges = takes_as m (types_of E) (type_to from Y) u own.0 fits.0 in
      assigns ! (of_opd ! (part_of E ! answer from Y v cs type given holds at.0 refl)) (of-local ! (stop !))
      (sets ! E m u cs lodges fits.1) $
      assigns ! (of_opd ! (part_of E ! m [] (local_at E m).0 u cs' refl tt lodges (content_put m u cs) refl))
      (behind E ! 1 b o cs' points at'.1 (at_part ! to X w there))
      (store_in ! 1 (along ! to X w there (behind_raw !)) (subst (λ (σ : Ty). Fits σ u) alike.0 fits)) $
      stores ss (suc m) (after v (moved to from) w) cs' alike.1 within ok.1.1.1 at' next)
  stores (moved_at to n index from ∷ ss) m w cs alike within ok at next =
      let s : ℕ = size (type_to from Y) in
      let u : Val = part from v in
      let x : Val = part index v in
      let i : ℕ = number x in
      let p : ℕ = offset_to to X o in
      let there = apart (leads to X w) ok.0 in
      let given = apart (leads from Y v) ok.1.0 in
      let fine = apart (is_struct (part to w) ∷ ltb (n * s) (2 ^ 64) ∷ ltb s (2 ^ 64) ∷ has_ty (ty_int w64) x ∷ []) ok.1.1.0 in
      let given-x = apart (leads index Y v) ok.1.1.1.0 in
      let own = apart (lodged v X Y answer k (types_of E) b o m (type_to from Y) x) ok.1.1.1.1.0 in
      let takes-x : T (takes (suc m) (types_of E) x) = own.1.0 in
      let clear = apart (spared (past_two m) (past_three m) answer) own.1.1.1.1.1.1.1.0 in
      let clear-u = apart (spared (past_two m) (past_three m) m) own.1.1.1.1.1.1.1.1.0 in
      let places = apart (taken (types_of E) b (suc m) (past_two m) (past_three m) (i * s) p) ok.1.1.1.1.1.0 in
      let small : i * s < 2 ^ 64 =
      lt_of_le_of_lt (mul-le-mul_right s (le_of_lt within.0)) (ltb→lt (n * s) (2 ^ 64) fine.1.0) in
      let cs₁ : Contents = put m u cs in
      let cs₂ : Contents = put (suc m) x cs₁ in
      let at₁ : Holds cs₁ =
      (content_other answer m u cs own.1.1.0 ∙ at.0, content_other 1 m u cs own.1.1.1.1.0 ∙ at.1) in
      let at₂ : Holds cs₂ =
      (content_other answer (suc m) x cs₁ own.1.1.1.0 ∙ at₁.0, content_other 1 (suc m) x cs₁ own.1.1.1.1.1.0 ∙ at₁.1) in
      let has-u = content_other m (suc m) x cs₁ own.1.1.1.1.1.1.0 ∙ content_put m u cs in
      let has-x = content_put (suc m) x cs₁ in
      let I : Ty = (local_at E (suc m)).0 in
      typed_in ! (along ! from Y v given (local-at ! E answer Y v cs type holds at.0)) (λ fits.
      let lodges = takes_as m (types_of E) (type_to from Y) u own.0 fits.0 in
      assigns ! (of_opd ! (part_of E ! answer from Y v cs type given holds at.0 refl)) (of-local ! (stop !))
      (sets ! E m u cs lodges fits.1) $
      typed_in ! (along ! index Y v given-x (local-at ! E answer Y v cs₁ type holds at₁.0)) (λ fits-x.
      assigns ! (of_opd ! (part_of E ! answer index Y v cs₁ type given-x holds at₁.0 refl)) (of-local ! (stop !))
      (sets ! E (suc m) x cs₁ takes-x fits-x.1) $
      addressed 𝓛 C Λ E X I (suc m) (past_two m) x b o refl takes-x points to [] s (past_three m) w cs₂ there tt fine.1.1.1.0 fine.1.1.0
      (record { fits = small }) places (has-x, at₂.1) (λ at₅ lies.
      let cs₅ : Contents = cs₃ 𝓛 C Λ E X I (suc m) (past_two m) x b o refl takes-x points to [] s (past_three m) w cs₂ in
      let keeps : (i : ℕ) → Each (spared (past_two m) (past_three m) i) → content i cs₅ ≡ content i cs₂ =
      kept 𝓛 C Λ E X I (suc m) (past_two m) x b o refl takes-x points to [] s (past_three m) w cs₂ in
      assigns ! (of_opd ! (part_of E ! m [] (local_at E m).0 u cs₅ refl tt lodges (keeps m clear-u ∙ has-u) refl))
      (behind E ! (past_four m) b (i * s + p) cs₅ places.1.1.0 lies (stop !))
      (store_in ! 1 (at_index ! (part to w) i fine.0 within.0
      (subst (λ (σ : Ty). Part (Go {0}) 𝓛 (Cell w) full_share σ b p (part to w) (λ u. Cell (changed to w u))) alike.0
      (along ! to X w there (behind_raw !)))) fits) $
      stores ss (past_five m) (after v (moved_at to n index from) w) cs₅ alike.1 within.1 ok.1.1.1.1.1.1
      (keeps answer clear ∙ at₂.0, at₅.1) next)))
