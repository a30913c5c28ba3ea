-- Contracts that ask nothing: of a core, and of an entry over it.
--     Terms            what such a contract says.        triple T     it as a Hoare triple, as statements have it
--     answered, gives  what a caller has once such a function has returned, and what the function has to show
--     core, entry      the terms of a core, and of an entry of the form F over it
--     Follows          what the core ensures gives what the entry ensures.        handed_on, first-told    two ways to show it
-- An entry's terms are at the core's types of the other parameters. A function's own statement has the entry's numbers
-- of their lifetimes there, but a triple reads only what a type denotes, owns and leaves: they are one by computation.
-- Assumes `Logic` for the two rules.
use Prim.Native.Nat.{ℕ, suc}
use mathlib.Core.List.{List, [], ◌∷◌}
use seplogic.Ra.Ura.{Ura}
use mir.Val.{Val}
use base.Logic.{SProp, ent, sep, ex, guard, emp, id⊢, via, snd∗, ex∗, guard_i}
use base.Fml.{Fml, fsep}
use types.Logic.{Logic, sem}
use types.Kit.{Item, ‵, raw, ◌⊛◌, some, later, Goal, Soaks, Sq, ◌$◌, ◌∵◌, !, qed, move, use1, split, join, pick}
use types.Kit.{await, show, frame, updating, now, done}
use contract.Fact.{fact}
use contract.Lifetimes.{Lfts, Shares, toks}
use denote.RattleType.{RattleType, Denots, Valss, flat, owns}
use denote.Signature.{types_at}
use denote.Triple.Statement.{Contract}
use denote.Triple.End.{Kepts, Fins, Outs, outs, lasts_of}
use Rattle.walk.proofs.Spelled.{Spelleds, pointer}
use Rattle.walk.proofs.Parameters.{laws}
use Rattle.walk.proofs.Form.{Form, n, slots, all_slots, others, Args}

pub record Terms {M : Type 1} (𝓤 : Ura M) : Type 2 where
  pub lifetimes : ℕ
  pub params : Lfts lifetimes → List RattleType
  pub result : Lfts lifetimes → RattleType
  -- what is bound of the parameters at exit, what is said of what is bound, and what is ensured
  pub Lasts : (κ : Lfts lifetimes) → Denots (params κ) → Type 0
  pub lasts : (κ : Lfts lifetimes) (a : Denots (params κ)) → Lasts κ a → Fml
  pub Ensures : (κ : Lfts lifetimes) (a : Denots (params κ)) → (result κ).Denot → Lasts κ a → SProp 𝓤

module _ {M : Type 1} {𝓤 : Ura M} (𝓛 : Logic 𝓤) (T : Terms 𝓤) where
  open 𝓛 use {H}

  module _ (κ : Lfts T.lifetimes) (qs : Shares T.lifetimes) (a : Denots (T.params κ)) where
    -- the lifetimes' tokens
    abbrev pub Alive : SProp 𝓤
    Alive = toks 𝓛 T.lifetimes κ qs

    abbrev pub Pre : Valss (T.params κ) → SProp 𝓤
    Pre vss = sep 𝓤 (sep 𝓤 Alive (sem 𝓛 (owns (T.params κ) a vss))) (emp 𝓤)

    abbrev Said : (T.result κ).Denot → T.Lasts κ a → SProp 𝓤
    Said r ws = sep 𝓤 (sem 𝓛 (T.lasts κ a ws)) (T.Ensures κ a r ws)

    abbrev Back : Val → (T.result κ).Denot → SProp 𝓤
    Back v r = sep 𝓤 (sep 𝓤 Alive (sem 𝓛 ((T.result κ).own_val r (v ∷ [])))) (ex 𝓤 (Said r))

    abbrev pub Post : Val → SProp 𝓤
    Post v = H.⇛ (ex 𝓤 (Back v))

    module _ (v : Val) where
      pub answered : {Γ : List (Item 𝓤)} {G : Goal 𝓤 H} → Soaks G → ((r : (T.result κ).Denot) (ws : T.Lasts κ a)
          → Sq 𝓛 (‵ ((T.result κ).own_val r (v ∷ [])) ∷ raw Alive ∷ ‵ (T.lasts κ a ws) ∷ raw (T.Ensures κ a r ws) ∷ Γ) G)
          → Sq 𝓛 (raw (Post v) ∷ Γ) G
      answered z k =
          use1 𝓛 (later (some (λ (r : (T.result κ).Denot). (raw Alive ⊛ ‵ ((T.result κ).own_val r (v ∷ [])))
          ⊛ some (λ (ws : T.Lasts κ a). ‵ (T.lasts κ a ws) ⊛ raw (T.Ensures κ a r ws))))) (id⊢ 𝓤 _) $
          await ! z $ pick ! (λ r. split ! $ move ! (1 ∷ []) $ pick ! (λ ws. split ! $ move ! (2 ∷ []) $ split ! $
          move ! (1 ∷ []) $ k r ws))

      pub gives : (r : (T.result κ).Denot) (ws : T.Lasts κ a)
          → ent 𝓤 (sep 𝓤 Alive (sep 𝓤 (sem 𝓛 ((T.result κ).own_val r (v ∷ []))) (Said r ws))) (Post v)
      gives r ws =
          qed 𝓛 (raw Alive ∷ ‵ ((T.result κ).own_val r (v ∷ [])) ∷ raw (Said r ws) ∷ []) ∵ updating ! $ now ! $ join ! $
          show ! (Back v) r $ frame ! $ show ! (Said r) ws $ done !

  -- what the triple binds outside: lifetimes, shares of their tokens, no bounds, arguments, and their machine values
  abbrev Bound : Type 0
  Bound =
      (κ : Lfts T.lifetimes) × (qs : Shares T.lifetimes) × Unit {0} × (a : Denots (T.params κ))
      × Valss (T.params κ)

  abbrev pub triple : Contract 𝓤
  triple = record {
    Ghost = (z : Bound) × Unit {0};
    args = λ y. flat (T.params y.0.0) y.0.4;
    pre = λ y. Pre y.0.0 y.0.1 y.0.3 y.0.4;
    post = λ y. Post y.0.0 y.0.1 y.0.3;
  }

-- ---- a core and an entry
module _ (F : Form) where
  -- of each of the core's parameters, which lifetimes its clauses speak of at exit
  abbrev pub Keeps : Type 0
  Keeps = Kepts (all_slots F)

  -- the types of the entry's parameters, how their values are spelled, and what it hands on
  abbrev pub passed : Lfts (suc (n F)) → List RattleType
  passed κs = F.Ref κs.0 ∷ others F κs.1

  abbrev pub spelled : (κs : Lfts (suc (n F))) → Spelleds (passed κs)
  spelled κs =
      let κ = κs.0 in
      (record { val = λ x. pointer (F.seen κ x); tells = F.tells κ; lawful = F.lawful κ }, laws F.ps κs.1)

  abbrev pub args : (κs : Lfts (suc (n F))) → Denots (passed κs) → Args F
  args κs a = record { κ = κs.1; x = F.seen κs.0 a.0; a = a.1 }

  module _ {M : Type 1} (𝓤 : Ura M) (kept : Keeps) where
    -- what clauses say of the arguments, of the result and of what the parameters hold at exit: a core's, an entry's
    abbrev pub Clause : Type 2
    Clause = (κ : Lfts (n F)) → Denots (types_at (all_slots F) κ) → (F.Y κ).Denot → Outs κ (all_slots F) kept → SProp 𝓤

    abbrev pub Claim : Type 2
    Claim =
        (κs : Lfts (suc (n F))) → Denots (passed κs) → (F.R κs.1).Denot → F.Seen × Outs κs.1 (slots F) kept.1
        → SProp 𝓤

    abbrev pub core : Clause → Terms 𝓤
    core Ensures = record {
      lifetimes = n F;
      params = types_at (all_slots F);
      result = F.Y;
      Lasts = λ κ a. Fins κ (all_slots F) kept a;
      lasts = λ κ a ws. lasts_of κ (all_slots F) kept a ws;
      Ensures = λ κ a d ws. Ensures κ a d (outs κ (all_slots F) kept a ws);
    }

    abbrev pub entry : Claim → Terms 𝓤
    entry Ensures = record {
      lifetimes = suc (n F);
      params = passed;
      result = λ κs. F.R κs.1;
      Lasts = λ κs a. F.Last × Fins κs.1 (slots F) kept.1 a.1;
      lasts = λ κs a ws. fsep (F.left κs.0 a.0 ws.0) (lasts_of κs.1 (slots F) kept.1 a.1 ws.1);
      Ensures = λ κs a r ws.
          Ensures κs a r (F.see κs.0 a.0 ws.0, outs κs.1 (slots F) kept.1 a.1 ws.1);
    }

    -- what the core ensures of the record that the entry sees gives what the entry ensures, at the answer d, and what the
    -- form asks of d
    abbrev pub Follows : Clause → Claim → Type 1
    Follows c e =
        (κs : Lfts (suc (n F))) (a : Denots (passed κs)) (d : (F.Y κs.1).Denot) → let h = (args κs a).x.now in
        (ws : (core c).Lasts κs.1 (h, a.1)) → ent 𝓤 ((core c).Ensures κs.1 (h, a.1) d ws)
        (guard 𝓤 (F.sound κs.1 d) ((entry e).Ensures κs a (F.gives κs.1 d) (F.to κs.1 h d, ws.1)))

-- ---- how it follows: the entry ensures what the core does, and the form asks nothing of the answer; or the core's first
-- clause tells what it asks, and the second is what the entry ensures
module _ {M : Type 1} (𝓤 : Ura M) where
  pub handed_on : (P : SProp 𝓤) → ent 𝓤 P (guard 𝓤 (Unit {0}) P)
  handed_on P = guard_i 𝓤 (Unit {0}) P tt

  pub first-told : {φ χ ψ : Type 0} → (φ → ψ) → ent 𝓤 (sep 𝓤 (fact 𝓤 φ) (fact 𝓤 χ)) (guard 𝓤 ψ (fact 𝓤 χ))
  first-told {φ} {χ} {ψ} f =
      let P : SProp 𝓤 = fact 𝓤 χ in
      ex∗ 𝓤 (λ (_ : φ). emp 𝓤) P (λ x. via 𝓤 P (snd∗ 𝓤 (emp 𝓤) P) (guard_i 𝓤 ψ P (f x)))
