-- A function's locals from its entry to its return.
--     begins           they are allocated, and the arguments are stored in those after the result
--     ends             the result is read, and they are freed
-- Assumes `Logic`.
use mathlib.Core.Path.{◌≡◌, refl, sym, ap, subst}
use Prim.Native.Nat.{ℕ}
use mathlib.Core.Option.{none, some}
use mathlib.Core.List.{List, [], ◌∷◌}
use seplogic.Ra.Ura.{Ura}
use lib.Dec.{T}
use mir.Syntax.{Ty, Local, local, return, Fn}
use mir.Val.{Val, WTs, of_list}
use base.Logic.{SProp, ent, sep, wand, emp, via, mono_r, emp∗, snd∗, wand_i, all_i}
use prog.Wp.{Env, alloc, pass, params, release, Calls, Loops, WpFn, Wp, at_return}
use types.Logic.{Logic, sem}
use types.Kit.{Item, raw, ◌⊛◌, ⋆, runs, at_ret, prop, Seq, ◌$◌, ◌∵◌, !, qed, by, move, use1}
use types.Kit.{split, join, frame, assume, check, done, pop}
use types.Run.{returns}
use types.Part.{look_in}
use denote.RattleType.{RattleType, Denots, Valss, flat, owns}
use Rattle.walk.proofs.Locals.{types_of, declared, local_at, Contents, first, later, content, held}
use Rattle.walk.proofs.Locals.{takes, fit, arguments, Each}
use Rattle.walk.proofs.Cells.{At, Room, Dies, cell, cells, roomy, locals, local-at}
use Rattle.walk.proofs.Spelled.{Spelleds, spelt, values, values_wt, spelled_out}

module _ {M : Type 1} {𝓤 : Ura M} (𝓛 : Logic 𝓤) where
  open 𝓛 use {H}

  abbrev ◌∗◌ : SProp 𝓤 → SProp 𝓤 → SProp 𝓤
  P ∗ Q = sep 𝓤 P Q

  abbrev ◌⊢◌ : SProp 𝓤 → SProp 𝓤 → Type 1
  P ⊢ Q = ent 𝓤 P Q

  infixr 35 ◌∗◌
  infix 26 ◌⊢◌
  abbrev Cells : Env 𝓤 H → Contents → SProp 𝓤
  Cells E cs = cells 𝓛 E cs

  -- a local that holds nothing
  abbrev Empty : Ty × ℕ → SProp 𝓤
  Empty l = Room 𝓛 l ∗ Dies 𝓛 l

  allocated : (ls : List Local) (K : Env 𝓤 H → SProp 𝓤) (P : SProp 𝓤)
      → ((E : Env 𝓤 H) → types_of E ≡ declared ls → Cells E [] ∗ P ⊢ K E) → P ⊢ alloc 𝓤 H ls K
  allocated [] K P k = via 𝓤 (emp 𝓤 ∗ P) (emp∗ 𝓤 P) (k [] refl)
  allocated (local τ h ∷ ls) K P k = all_i 𝓤 (λ (b : ℕ). wand 𝓤 (Empty (τ, b)) (Next b)) (λ b.
      wand_i 𝓤 P (Empty (τ, b)) (Next b) (allocated ls (λ E. K ((τ, b) ∷ E)) (P ∗ Empty (τ, b)) (λ E e.
      via 𝓤 ((Empty (τ, b) ∗ Cells E []) ∗ P)
      (qed 𝓛 (locals 𝓛 E [] ∷ raw P ∷ raw (Empty (τ, b)) ∷ []) ∵ move ! (2 ∷ 0 ∷ []) $ join ! $ done !)
      (k ((τ, b) ∷ E) (ap {B = List Ty} (λ τs. τ ∷ τs) e)))))
    where
      Next : ℕ → SProp 𝓤
      Next b = alloc 𝓤 H ls (λ E. K ((τ, b) ∷ E))

  passed : (E : Env 𝓤 H) (vs : List Val) (K P : SProp 𝓤) → Each (fit (types_of E) vs) → WTs (of_list vs)
      → Cells E (held vs) ∗ P ⊢ K → Cells E [] ∗ P ⊢ pass 𝓤 H E vs K
  passed E [] K P ok wt k = k
  passed [] (v ∷ vs) K P ok wt k = absurd ok.0
  passed (l ∷ E) (v ∷ vs) K P ok wt k =
      let Here : SProp 𝓤 = At 𝓛 l v in
      let D : SProp 𝓤 = Dies 𝓛 l in
      qed 𝓛 (((raw (Room 𝓛 l) ⊛ raw D) ⊛ locals 𝓛 E []) ∷ raw P ∷ []) ∵ split ! $ split ! $
      check ! (ok.0, wt.0) $ frame ! $ assume ! (raw Here) $ move ! (2 ∷ []) $
      by ! (passed E vs K (Here ∗ (D ∗ P)) ok.1 wt.1 (via 𝓤 (((Here ∗ D) ∗ Cells E (held vs)) ∗ P)
      (qed 𝓛 (locals 𝓛 E (held vs) ∷ raw Here ∷ raw D ∷ raw P ∷ []) ∵
      move ! (1 ∷ 2 ∷ []) $ join ! $ join ! $ done !) k))

  argued : (E : Env 𝓤 H) (vs : List Val) (K P : SProp 𝓤) → Each (arguments (types_of E) vs) → WTs (of_list vs)
      → Cells E (none ∷ held vs) ∗ P ⊢ K → Cells E [] ∗ P ⊢ params 𝓤 H E vs K
  argued [] vs K P ok wt k = absurd ok.0
  argued (l ∷ E) vs K P ok wt k =
      via 𝓤 (Cells E [] ∗ (Empty l ∗ P))
      (qed 𝓛 ((raw (Empty l) ⊛ locals 𝓛 E []) ∷ raw P ∷ []) ∵ split ! $ move ! (1 ∷ 0 ∷ []) $ done !)
      (passed E vs K (Empty l ∗ P) ok wt (via 𝓤 ((Empty l ∗ Cells E (held vs)) ∗ P)
      (qed 𝓛 (locals 𝓛 E (held vs) ∷ raw (Empty l) ∷ raw P ∷ []) ∵ move ! (1 ∷ 0 ∷ []) $ join ! $ done !) k))

  starts : (C : Calls 𝓤 H) (Λ : Loops 𝓤 H) (f : Fn) (vs : List Val) (K : Val → SProp 𝓤) (P : SProp 𝓤)
      → Each (arguments (declared f.locals) vs) → WTs (of_list vs)
      → ((E : Env 𝓤 H) → types_of E ≡ declared f.locals
      → Cells E (none ∷ held vs) ∗ P ⊢ Wp 𝓤 H C Λ E f.body (at_return 𝓤 H E K)) → P ⊢ WpFn 𝓤 H C Λ f vs K
  unfolding WpFn
  starts C Λ f vs K P ok wt k =
      allocated f.locals (λ E. params 𝓤 H E vs (Wp 𝓤 H C Λ E f.body (at_return 𝓤 H E K))) P (λ E e.
      argued E vs (Wp 𝓤 H C Λ E f.body (at_return 𝓤 H E K)) P
      (subst (λ (τs : List Ty). Each (arguments τs vs)) (sym e) ok) wt (k E e))

  -- P are the tokens that a function is passed beside what its parameters' types own
  pub begins : (C : Calls 𝓤 H) (Λ : Loops 𝓤 H) (f : Fn) (Ts : List RattleType) (ls : Spelleds Ts) (a : Denots Ts)
      (P : SProp 𝓤) (K : Val → SProp 𝓤) → Each (arguments (declared f.locals) (values Ts ls a))
      → ((E : Env 𝓤 H) → types_of E ≡ declared f.locals
      → Cells E (none ∷ held (values Ts ls a)) ∗ ((P ∗ sem 𝓛 (owns Ts a (spelt Ts ls a))) ∗ emp 𝓤)
      ⊢ Wp 𝓤 H C Λ E f.body (at_return 𝓤 H E K))
      → (vss : Valss Ts) → (P ∗ sem 𝓛 (owns Ts a vss)) ∗ emp 𝓤 ⊢ WpFn 𝓤 H C Λ f (flat Ts vss) K
  begins C Λ f Ts ls a P K ok k =
      let All : SProp 𝓤 = (P ∗ sem 𝓛 (owns Ts a (spelt Ts ls a))) ∗ emp 𝓤 in
      spelled_out 𝓛 Ts ls a P (λ vs. WpFn 𝓤 H C Λ f vs K) (λ are.
      starts C Λ f (values Ts ls a) K All ok (values_wt 𝓛 Ts ls a are) k)

  freed : (E : Env 𝓤 H) (cs : Contents) (K : SProp 𝓤) → Cells E cs ∗ K ⊢ release 𝓤 H E K
  freed [] cs K = snd∗ 𝓤 (emp 𝓤) K
  freed (l ∷ E) cs K =
      qed 𝓛 (((raw (cell 𝓛 l (first cs)) ⊛ raw (Dies 𝓛 l)) ⊛ locals 𝓛 E (later cs)) ∷ raw K ∷ []) ∵
      split ! $ split ! $ use1 𝓛 (raw (Room 𝓛 l)) (roomy 𝓛 l (first cs)) $ join ! $ frame ! $
      by ! (freed E (later cs) K)

module _ {M : Type 1} {𝓤 : Ura M} {𝓛 : Logic 𝓤} {K : Type 0} where
  open 𝓛 use {H}

  pub ends : K → {C : Calls 𝓤 H} {Λ : Loops 𝓤 H} {Γ : List (Item 𝓤)} {Q : Val → SProp 𝓤} (E : Env 𝓤 H) (v : Val)
      (cs : Contents) → T (takes 0 (types_of E) v) → content 0 cs ≡ some v
      → Seq K 𝓛 Γ (prop (Q v)) → Seq K 𝓛 (locals 𝓛 E cs ∷ Γ) (runs C Λ E return (at_ret E Q))
  ends t {Γ = Γ} {Q = Q} E v cs takes e k =
      let Cells : SProp 𝓤 = cells 𝓛 E cs in
      returns t (look_in t 0 (local-at t E 0 (local_at E 0).0 v cs refl takes e)) $
      by t (via 𝓤 (sep 𝓤 Cells (⋆ 𝓛 Γ)) (pop 𝓛 (locals 𝓛 E cs) Γ)
      (via 𝓤 (sep 𝓤 Cells (Q v)) (mono_r 𝓤 Cells k.prf) (freed 𝓛 E cs (Q v))))
