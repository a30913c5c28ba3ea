-- The record behind the reference.
--     opened           the borrow of a `&mut X` is opened: the machine value in the record's cell is the record's
--     shut             it is closed at another record, which has been stored there
--     looked           a `&X` is looked into; `denote.Steps`'s `shuts` shuts it
-- What the others own stays one block (Rest), and so do their lifetimes' tokens (Alive).
-- Assumes `Logic`.
use Prim.Native.Nat.{ℕ}
use mathlib.Core.List.{List, [], ◌∷◌}
use seplogic.Ra.Ura.{Ura}
use base.Fraction.{full_share}
use mir.Val.{Val, vptr}
use base.Logic.{SProp}
use base.Stored.{Gv}
use base.Fml.{Fml, Lft, Share, GName, fsep, feq, flft, fobs, fauth, fbor, fobor}
use types.Logic.{Logic}
use types.Kit.{Goal, Soaks, Seq, Step, step, Item, ‵, raw, ◌⊛◌, ◌$◌, move, drop, split, fsplit, fsplit3}
use types.SemTy.{Body}
use denote.RattleType.{RattleType}
use denote.Memory.{mem, cell_at, part_at, hidden_shr}
use denote.Opens.{Shut}
use denote.Laws.{Is, shows}
use denote.Steps.{opens, closes, looks, owned, peeks}
use denote.Struct.Declared.{row}
use denote.Struct.Steps.{spelt}
use denote.Struct.Laws as LL
use Rattle.walk.proofs.Form.{Record}

abbrev R : Record → RattleType
R T = row T.X

abbrev vals : (T : Record) → T.X.D → List Val
vals T = LL.vals T.X T.laws

-- what a reference says of its machine value, beside P
abbrev Points : List Val → ℕ → ℕ → Fml → Fml
Points vs b o P = fsep (feq (List Val) vs (vptr b o ∷ [])) P

-- a share of the record's cell; what a `&mut` borrows; and what a ghost name records
abbrev Cell : Record → Share → List Val → ℕ → ℕ → Fml
Cell T s vs b o = cell_at s (R T).mir vs b o

abbrev Lent : Record → ℕ → ℕ → GName → Fml
Lent T b o γ = Body (mem (R T)) b o γ

abbrev code : (T : Record) → T.X.D → Gv
code T h = (R T).coded.code h

module _ {M : Type 1} {𝓤 : Ura M} {𝓛 : Logic 𝓤} {K : Type 0} {G : Goal 𝓤 𝓛.H}
    (T : Record) (h : T.X.D) (b o : ℕ) where
  written : K → (s : Share) (vs : List Val) {Γ : List (Item 𝓤)}
      → (Is (R T) h (vals T h) → Seq K 𝓛 (‵ (Cell T s (vals T h) b o) ∷ ‵ ((R T).own_val h (vals T h)) ∷ Γ) G)
      → Seq K 𝓛 (‵ (Cell T s vs b o) ∷ ‵ ((R T).own_val h vs) ∷ Γ) G
  written t s vs k =
      spelt t (R T) (Is (R T)) (shows 𝓛 (R T)) (vals T) (LL.tells T.X T.laws) s h vs b o $ move t (1 ∷ []) $
      peeks t (R T) (Is (R T)) (shows 𝓛 (R T)) h (vals T h) (λ is. move t (1 ∷ 0 ∷ []) $ k is)

  module _ {κ : Lft} {q : Share} {Γ : List (Item 𝓤)} where
    module _ {vs : List Val} {Alive : SProp 𝓤} {Rest : Fml} where
      pub opened : K → Soaks G → {γ : GName} → (Is (R T) h (vals T h)
          → Seq K 𝓛 (‵ (Cell T full_share (vals T h) b o) ∷ ‵ ((R T).own_val h (vals T h)) ∷ ‵ (fobor κ q (Lent T b o γ))
          ∷ ‵ (fobs γ (code T h)) ∷ ‵ (fauth γ (code T h)) ∷ raw Alive ∷ ‵ Rest ∷ Γ) G)
          → Seq K 𝓛 (‵ (fsep (Points vs b o (fsep (fobs γ (code T h)) (fbor κ (Lent T b o γ)))) Rest)
          ∷ (‵ (flft κ q) ⊛ raw Alive) ∷ Γ) G
      opened t z k =
          fsplit t $ fsplit3 t $ drop t $ move t (3 ∷ []) $ split t $ move t (2 ∷ 3 ∷ 0 ∷ []) $
          opens t z (R T) {h = h} b o (λ us. written t full_share us k)

      pub looked : K → Soaks G → ((s : Share) → Is (R T) h (vals T h)
          → Seq K 𝓛 (‵ (Cell T s (vals T h) b o) ∷ ‵ ((R T).own_val h (vals T h)) ∷ Shut 𝓛 κ q (part_at (R T) s h b o)
          ∷ ‵ (hidden_shr (R T) κ h b o) ∷ raw Alive ∷ ‵ Rest ∷ Γ) G)
          → Seq K 𝓛 (‵ (fsep (Points vs b o (hidden_shr (R T) κ h b o)) Rest)
          ∷ (‵ (flft κ q) ⊛ raw Alive) ∷ Γ) G
      looked t z k =
          fsplit t $ fsplit t $ drop t $ move t (2 ∷ []) $ split t $ move t (2 ∷ 0 ∷ []) $
          looks t z (R T) (LL.copied T.X T.copyable 𝓛).opens h b o (λ s us. written t s us (k s))

    pub shut : K → Soaks G → {γ : GName} {u v : Gv} → Is (R T) h (vals T h)
        → Step K 𝓛 (‵ (fobs γ (code T h)) ∷ ‵ (fbor κ (Lent T b o γ)) ∷ ‵ (flft κ q) ∷ Γ) G
        (‵ (Cell T full_share (vals T h) b o) ∷ ‵ (fobor κ q (Lent T b o γ)) ∷ ‵ (fobs γ u) ∷ ‵ (fauth γ v) ∷ Γ) G
    shut t z is =
        step (λ s. owned t (R T) (Is (R T)) (LL.makes T.X T.plains 𝓛) h (vals T h) is $
        move t (1 ∷ 0 ∷ []) $ closes t z (R T) h (vals T h) b o $ s)
