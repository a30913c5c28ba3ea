-- Parts of a value: by the fields that lead to one, in order, and elements of an array.
--     part ks v        the part of v at the fields ks.        changed ks v u       v with u there
--     type_to, offset_to     the type of that part, and where it lies, from the whole's
--     leads ks τ v     the tests that the fields ks lead to a part of v, a value of τ
--     along, at_index  the cell of that part, and of an array's element, within the cell of the whole
--     behind_raw       the cell of a type within the cell of its raw form, as what lies behind a reference is
--     the_part, part_of    such a part of a local as a statement reads it.        at_part      and the place of one
-- Assumes `Logic`.
use mathlib.Core.Path.{◌≡◌, refl, sym, ap, subst, ◌∙◌}
use Prim.Native.Nat.{ℕ, zero, suc, ◌+◌, ◌*◌, ◌<◌}
use native.Mathlib.Nat.{not-suc-le-zero, le_of_suc-le-suc}
use mathlib.Core.Bool.{Bool, true, false}
use mathlib.Core.Option.{Option, none, some}
use mathlib.Core.List.{List, [], ◌∷◌}
use seplogic.Ra.Ura.{Ura}
use lib.Dec.{T}
use lib.ListN.{length, set, length-set}
use mir.Syntax.{Ty, ty_int, ty_bool, ty_float, ty_ptr, ty_ref, ty_array, ty_unit, ty_struct, ty_enum}
use mir.Syntax.{ty_param, ty_const, ty_array_p, ty_named}
use mir.Syntax.{Step as Hop, field, place, Opd as Operand, copy}
use mir.Val.{Val, vunit, vbool, vint, vfloat, vptr, vcode, vstruct, Vals, vnil, vcons, of_list, all_n, has_ty}
use mir.Fields.{get_v, set_v, set_v-get_v, to_list}
use mir.Raw.{raw as raw_ty}
use base.Logic.{SProp, ent, sep, wand}
use base.Fml.{Share, fat}
use store.Enc.{and_r}
use prog.Memory.{size, field_of, field_at}
use prog.Model.{elems}
use prog.Wp.{Env}
use types.Logic.{Logic}
use types.Kit.{Item, ‵, raw, ◌⊛◌, mean, ◌$◌, ◌∵◌, !, qed, by, use1, use2, split, frame, each, assume, done}
use types.Run.{Walks, Opd, stop, fld, from, load, well_typed}
use types.Part.{Part, sub, look_in}
use denote.Index.{place as placed, place_is}
use Rattle.walk.proofs.Locals.{types_of, local_at, Contents, content, takes, Each}
use Rattle.walk.proofs.Cells.{Way, back, later_out, locals, local-at}

-- ---- values
abbrev pub fields_of : Val → Vals
fields_of vunit = vnil
fields_of (vbool b) = vnil
fields_of (vint w n) = vnil
fields_of (vfloat f x) = vnil
fields_of (vptr b o) = vnil
fields_of (vcode t) = vnil
fields_of (vstruct vs) = vs

abbrev pub is_struct : Val → Bool
is_struct vunit = false
is_struct (vbool b) = false
is_struct (vint w n) = false
is_struct (vfloat f x) = false
is_struct (vptr b o) = false
is_struct (vcode t) = false
is_struct (vstruct vs) = true

is-struct : (v : Val) → T (is_struct v) → v ≡ vstruct (fields_of v)
is-struct vunit s = absurd s
is-struct (vbool b) s = absurd s
is-struct (vint w n) s = absurd s
is-struct (vfloat f x) s = absurd s
is-struct (vptr b o) s = absurd s
is-struct (vcode t) s = absurd s
is-struct (vstruct vs) s = refl

abbrev pub part : List ℕ → Val → Val
part [] v = v
part (k ∷ ks) v = part ks (get_v (fields_of v) k)

abbrev pub changed : List ℕ → Val → Val → Val
changed [] v u = u
changed (k ∷ ks) v u = vstruct (set_v (fields_of v) k (changed ks (get_v (fields_of v) k) u))

-- ---- types
abbrev found : Option (Ty × ℕ) → Bool
found none = false
found (some f) = true

abbrev the : Option (Ty × ℕ) → Ty × ℕ
the none = (ty_unit, zero)
the (some f) = f

is_found : (f : Option (Ty × ℕ)) → T (found f) → f ≡ some (the f)
is_found none h = absurd h
is_found (some f) h = refl

-- field k of τ: its type, and its offset
abbrev the_field : Ty → ℕ → Ty × ℕ
the_field τ k = the (field_of τ k)

abbrev pub type_to : List ℕ → Ty → Ty
type_to [] τ = τ
type_to (k ∷ ks) τ = type_to ks (the_field τ k).0

abbrev pub offset_to : List ℕ → Ty → ℕ → ℕ
offset_to [] τ o = o
offset_to (k ∷ ks) τ o = offset_to ks (the_field τ k).0 (o + (the_field τ k).1)

abbrev pub leads : List ℕ → Ty → Val → List Bool
leads [] τ v = []
leads (k ∷ ks) τ v = found (field_of τ k) ∷ is_struct v ∷ leads ks (the_field τ k).0 (get_v (fields_of v) k)

-- ---- as a statement reads it
abbrev pub steps : List ℕ → List Hop
steps [] = []
steps (k ∷ ks) = field k ∷ steps ks

abbrev pub the_part : ℕ → List ℕ → Operand
the_part i ks = copy (place i (steps ks))

-- ---- an array's elements as values
of-list : (vs : Vals) → of_list (to_list vs) ≡ vs
unfolding to_list
of-list vnil = refl
of-list (vcons v vs) = ap (vcons v) (of-list vs)

of_set : (us : List Val) (i : ℕ) (u : Val) → of_list (set us i u) ≡ set_v (of_list us) i u
of_set [] i u = refl
of_set (v ∷ us) zero u = refl
of_set (v ∷ us) (suc i) u = ap (vcons v) (of_set us i u)

counted : (τ : Ty) (n : ℕ) (us : List Val) → T (all_n (has_ty τ) n (of_list us)) → length us ≡ n
counted τ zero [] h = refl
counted τ zero (u ∷ us) h = absurd h
counted τ (suc n) [] h = absurd h
counted τ (suc n) (u ∷ us) h = ap suc (counted τ n us (and_r (has_ty τ u) (all_n (has_ty τ) n (of_list us)) h))

-- ---- cells
module _ {M : Type 1} {𝓤 : Ura M} (𝓛 : Logic 𝓤) (q : Share) (τ : Ty) (b : ℕ) where
  open 𝓛 use {H}

  abbrev At : ℕ → Val → SProp 𝓤
  At o v = H.at q τ b o v

  -- one of a row of cells, with the way back
  picked : (us : List Val) (i o : ℕ) → i < length us → ent 𝓤 (elems 𝓤 H q τ b o us)
      (sep 𝓤 (At (placed (size τ) o i) (get_v (of_list us) i))
      (Way 𝓛 (At (placed (size τ) o i)) (λ u. elems 𝓤 H q τ b o (set us i u))))
  picked [] i o l = absurd (not-suc-le-zero l)
  picked (v ∷ us) zero o l =
      let Rest : SProp 𝓤 = elems 𝓤 H q τ b (o + size τ) us in
      qed 𝓛 (raw (At o v) ∷ raw Rest ∷ []) ∵ frame ! $
      each ! (λ (u : Val). wand 𝓤 (At o u) (sep 𝓤 (At o u) Rest)) (λ u. assume ! (raw (At o u)) $ done !)
  picked (v ∷ us) (suc i) o l =
      let p : ℕ = placed (size τ) (o + size τ) i in
      later_out 𝓛 (At o v) (At p (get_v (of_list us) i)) (elems 𝓤 H q τ b (o + size τ) us) (At p)
      (λ u. elems 𝓤 H q τ b (o + size τ) (set us i u)) (picked us i (o + size τ) (le_of_suc-le-suc l))

  module _ (n o i : ℕ) where
    abbrev Array : Vals → SProp 𝓤
    Array vs = H.at q (ty_array τ n) b o (vstruct vs)

    abbrev Element : Val → SProp 𝓤
    Element u = At (placed (size τ) o i) u

    element : (us : List Val) → i < n → ent 𝓤 (Array (of_list us))
        (sep 𝓤 (Element (get_v (of_list us) i)) (Way 𝓛 Element (λ u. Array (set_v (of_list us) i u))))
    element us l =
        let Row : List Val → SProp 𝓤 = λ vs. elems 𝓤 H q τ b o vs in
        qed 𝓛 (‵ (fat q (ty_array τ n) b o (vstruct (of_list us))) ∷ []) ∵ well_typed ! (λ wt.
        let e : length us ≡ n = counted τ n us wt.0 in
        use1 𝓛 (raw (Row us)) (𝓛.laws.at_elems q τ n b o us) $
        use1 𝓛 (raw (Element (get_v (of_list us) i)) ⊛ raw (Way 𝓛 Element (λ u. Row (set us i u))))
        (picked us i o (subst (λ (m : ℕ). i < m) (sym e) l)) $ split ! $ frame ! $
        each ! (λ (u : Val). wand 𝓤 (Element u) (Array (set_v (of_list us) i u))) (λ u.
        assume ! (raw (Element u)) $ use2 𝓛 (raw (Row (set us i u))) (back 𝓛 Element (λ u. Row (set us i u)) u) $
        by ! (subst (λ (vs : Vals). ent 𝓤 (Row (set us i u)) (Array vs)) (of_set us i u)
        (subst (λ (m : ℕ). ent 𝓤 (Row (set us i u)) (H.at q (ty_array τ m) b o (vstruct (of_list (set us i u)))))
        (length-set us i u ∙ e) (𝓛.laws.elems_at q τ b o (set us i u))))))

module _ {M : Type 1} {𝓤 : Ura M} {𝓛 : Logic 𝓤} {K : Type 0} where
  open 𝓛 use {H}

  pub behind_raw : K → {q : Share} {τ : Ty} {b o : ℕ} {v : Val}
      → Part K 𝓛 (‵ (fat q (raw_ty τ) b o v)) q τ b o v (λ u. ‵ (fat q (raw_ty τ) b o u))
  behind_raw t {q} {τ} {b} {o} {v} = record {
    out = qed 𝓛 (‵ (fat q (raw_ty τ) b o v) ∷ []) ∵ use1 𝓛 (‵ (fat q τ b o v)) (𝓛.laws.raw_at q τ b o v) $ frame ! $
        each ! (λ (u : Val). wand 𝓤 (H.at q τ b o u) (H.at q (raw_ty τ) b o u)) (λ u. assume ! (‵ (fat q τ b o u)) $
        by ! (𝓛.laws.at_raw q τ b o u));
    same = refl;
  }

  module _ {i : Item 𝓤} {q : Share} {b : ℕ} where
    into : K → (τ : Ty) {o : ℕ} (vs : Vals) {F : Val → Item 𝓤} (k : ℕ) → T (found (field_of τ k))
        → Part K 𝓛 i q τ b o (vstruct vs) F
        → Part K 𝓛 i q (the_field τ k).0 b (o + (the_field τ k).1) (get_v vs k) (λ u. F (vstruct (set_v vs k u)))
    into t (ty_int w) vs k h p = absurd h
    into t ty_bool vs k h p = absurd h
    into t (ty_float f) vs k h p = absurd h
    into t ty_ptr vs k h p = absurd h
    into t (ty_ref ℓ μ τ) vs k h p = absurd h
    into t (ty_array τ n) vs k h p = absurd h
    into t ty_unit vs k h p = absurd h
    into t (ty_struct ν τs) vs k h p = sub t k (is_found (field_at zero τs k) h) p
    into t (ty_enum ν τss) vs k h p = absurd h
    into t (ty_param j) vs k h p = absurd h
    into t (ty_const n) vs k h p = absurd h
    into t (ty_array_p τ j) vs k h p = absurd h
    into t (ty_named ν τs) vs k h p = absurd h

    -- a cell within the cell that another is within
    within : K → {τ σ : Ty} {o p : ℕ} {v x : Val} {F : Val → Item 𝓤} (f : Val → Val) → f x ≡ v
        → ent 𝓤 (H.at q τ b o v) (sep 𝓤 (H.at q σ b p x) (Way 𝓛 (H.at q σ b p) (λ u. H.at q τ b o (f u))))
        → Part K 𝓛 i q τ b o v F → Part K 𝓛 i q σ b p x (λ u. F (f u))
    within t {τ} {σ} {o} {p} {v} {x} {F} f e law r = record {
      out =
          let Outer : Val → SProp 𝓤 = λ u. H.at q τ b o u in
          let Inner : Val → SProp 𝓤 = λ u. H.at q σ b p u in
          let Whole : Val → SProp 𝓤 = λ u. mean 𝓛 (F u) in
          qed 𝓛 (i ∷ []) ∵ use1 𝓛 (raw (Outer v) ⊛ raw (Way 𝓛 Outer Whole)) r.out $ split ! $
          use1 𝓛 (raw (Inner x) ⊛ raw (Way 𝓛 Inner (λ u. Outer (f u)))) law $ split ! $ frame ! $
          each ! (λ (u : Val). wand 𝓤 (Inner u) (Whole (f u))) (λ u. assume ! (raw (Inner u)) $
          use2 𝓛 (raw (Outer (f u))) (back 𝓛 Inner (λ u. Outer (f u)) u) $
          use2 𝓛 (F (f u)) (back 𝓛 Outer Whole (f u)) $ done !);
      same = ap F e ∙ r.same;
    }

    -- v is a struct's value, or an array's
    as_struct : K → {τ : Ty} {o : ℕ} (v : Val) {F : Val → Item 𝓤} → T (is_struct v) → Part K 𝓛 i q τ b o v F
        → Part K 𝓛 i q τ b o (vstruct (fields_of v)) F
    as_struct t {τ} {o} v {F} s = subst (λ (u : Val). Part K 𝓛 i q τ b o u F) (is-struct v s)

    pub along : K → (ks : List ℕ) (τ : Ty) {o : ℕ} (v : Val) {F : Val → Item 𝓤} → Each (leads ks τ v)
        → Part K 𝓛 i q τ b o v F
        → Part K 𝓛 i q (type_to ks τ) b (offset_to ks τ o) (part ks v) (λ u. F (changed ks v u))
    along t [] τ v ok p = p
    along t (k ∷ ks) τ v ok p =
        along t ks (the_field τ k).0 (get_v (fields_of v) k) ok.1.1
        (into t τ (fields_of v) k ok.0 (as_struct t v ok.1.0 p))

    pub at_index : K → {τ : Ty} {n o : ℕ} (v : Val) {F : Val → Item 𝓤} (j : ℕ) → T (is_struct v) → j < n
        → Part K 𝓛 i q (ty_array τ n) b o v F
        → Part K 𝓛 i q τ b (j * size τ + o) (get_v (fields_of v) j) (λ u. F (vstruct (set_v (fields_of v) j u)))
    at_index t {τ} {n} {o} v {F} j s l p =
        let vs : Vals = fields_of v in
        let Back : Vals → SProp 𝓤 = λ us. H.at q (ty_array τ n) b o (vstruct us) in
        let Law : Vals → Type 1 = λ us. ent 𝓤 (Back us) (sep 𝓤 (H.at q τ b (placed (size τ) o j) (get_v us j))
        (Way 𝓛 (H.at q τ b (placed (size τ) o j)) (λ u. Back (set_v us j u)))) in
        subst (λ (p : ℕ). Part K 𝓛 i q τ b p (get_v vs j) (λ u. F (vstruct (set_v vs j u)))) (place_is (size τ) o j)
        (within t (λ u. vstruct (set_v vs j u)) (ap vstruct (set_v-get_v vs j))
        (subst Law (of-list vs) (element 𝓛 q τ b n o j (to_list vs) l)) (as_struct t v s p))

  module _ {Γ : List (Item 𝓤)} {E : Env 𝓤 H} where
    pub at_part : K → (ks : List ℕ) (τ : Ty) {b o : ℕ} (v : Val) → Each (leads ks τ v)
        → Walks K 𝓛 Γ E (τ, b, o) (steps ks) (type_to ks τ, b, offset_to ks τ o)
    at_part t [] τ v ok = stop t
    at_part t (k ∷ ks) τ v ok =
        fld t (is_found (field_of τ k) ok.0) (at_part t ks (the_field τ k).0 (get_v (fields_of v) k) ok.1.1)

module _ {M : Type 1} {𝓤 : Ura M} {𝓛 : Logic 𝓤} {K : Type 0} {Γ : List (Item 𝓤)}
    (E : Env 𝓤 𝓛.H) where
  pub part_of : K → (i : ℕ) (ks : List ℕ) (τ : Ty) (v : Val) {u : Val} (cs : Contents) → (local_at E i).0 ≡ τ
      → Each (leads ks τ v) → T (takes i (types_of E) v) → content i cs ≡ some v → part ks v ≡ u
      → Opd K 𝓛 (locals 𝓛 E cs ∷ Γ) E (the_part i ks) u
  part_of t i ks τ v cs type ok takes e is =
      let b : ℕ = (local_at E i).1 in
      subst (λ (u : Val). Opd K 𝓛 (locals 𝓛 E cs ∷ Γ) E (the_part i ks) u) is
      (load t (from t (subst (λ (σ : Ty). Walks K 𝓛 (locals 𝓛 E cs ∷ Γ) E (σ, b, zero) (steps ks)
      (type_to ks τ, b, offset_to ks τ zero)) (sym type) (at_part t ks τ v ok)))
      (look_in t 0 (along t ks τ v ok (local-at t E i τ v cs type takes e))))
