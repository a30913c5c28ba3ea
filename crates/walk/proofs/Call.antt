-- An entry's code from its entry to the call of the core, and over the call: the same for both kinds of reference.
--     to_call          the record is copied, and the slices are lent on
--     over_call        the core is called: its answer is stored, and what the entry ensures by it is in hand
-- Assumes `Logic`.
use mathlib.Core.Path.{◌≡◌, refl, sym, ap, subst}
use mathlib.Core.List.{List, [], ◌∷◌}
use seplogic.Ra.Ura.{Ura}
use mir.Syntax.{Callee, place}
use mir.Raw.{raw as raw_ty}
use mir.Val.{Val}
use base.Logic.{SProp, ent, guard, id⊢}
use base.Fml.{Share, Fml, fat}
use prog.Wp.{Env, Calls, Loops}
use types.Logic.{Logic}
use sound.WpLaws.{FmC}
use types.Kit.{Item, ‵, raw, given, Post, runs, lands, Sq, Go, !, Step, step, ◌$◌, move, use1, learn, join, fjoin}
use types.Run.{stop, from, load, look_raw, of_opd, assigns, land}
use contract.Lifetimes.{Shares}
use denote.Laws.{Is, shows}
use denote.RattleType.{Denots, Valss, owns}
use denote.Steps.{peeks, nothing, only}
use denote.Struct.Declared.{row, shape}
use denote.Struct.Struct.{layout}
use denote.Triple.Call.{calls_at}
use denote.Triple.Statement.{Triple}
use Rattle.walk.proofs.Locals.{types_of, put, later, Each, apart}
use Rattle.walk.proofs.Lending.{relent}
use Rattle.walk.proofs.Cells.{locals, sets, behind, operands}
use Rattle.walk.proofs.Spelled.{spelt, Fits, spelled_fits}
use Rattle.walk.proofs.Parameters.{laws}
use Rattle.walk.proofs.Form.{Form, n, others, lends, passes, calling, code_of, Args, w, us, at_entry, at_copy}
use Rattle.walk.proofs.Form.{slices, at_call, lent_tests, passed_tests, tests, Formed}
use Rattle.walk.proofs.Contract.{Terms, Alive, Pre, answered, triple, Keeps, Clause, core}

module _ {M : Type 1} {𝓤 : Ura M} (𝓛 : Logic 𝓤) (C : Calls 𝓤 𝓛.H) (Λ : Loops 𝓤 𝓛.H)
    {F : Form} (E : Env 𝓤 𝓛.H) (ok : Formed F (types_of E)) (z : Args F) where
  open 𝓛 use {H}

  tested : Each (tests F z (types_of E))
  tested = apart (tests F z (types_of E)) (ok.able z)

  pub there : Each (passed_tests F z (types_of E))
  there = apart (passed_tests F z (types_of E)) tested.1.1.0

  -- the record's machine value is one of its type
  abbrev Good : Type 0
  Good = Fits (layout (shape F.T.X)) (w F z)

  -- a share of the record's cell
  abbrev Cell : Share → Fml
  Cell s = fat s (raw_ty (layout (shape F.T.X))) z.x.ref_ptr.0 z.x.ref_ptr.1 (w F z)

  pub to_call : Good → {s : Share} {f : Callee} {q : Post 𝓤 H} {Γ : List (Item 𝓤)}
      → Step (Go {0}) 𝓛 (locals 𝓛 E (at_call F z) ∷ ‵ (Cell s) ∷ Γ) (runs C Λ E (calling F f) q)
      (locals 𝓛 E (at_entry F z) ∷ ‵ (Cell s) ∷ Γ) (runs C Λ E (code_of F f) q)
  to_call good =
      let was = behind E ! 1 z.x.ref_ptr.0 z.x.ref_ptr.1 (at_entry F z) there.0 refl (stop !) in
      let lendable : Each (lent_tests F z (types_of E)) = apart (lent_tests F z (types_of E)) tested.1.0 in
      step (λ s. assigns ! (of_opd ! (load ! was (look_raw ! 1 refl))) (from ! (stop !))
      (sets ! E F.copied (w F z) (at_entry F z) (ok.copy z good.0) good.1) $
      relent E ! (lends F) (slices F z) (at_copy F z) lendable (ok.lent z) $ s)

  module _ (kept : Keeps F) (Ensures : Clause F 𝓤 kept) (fm : FmC 𝓤 H 𝓛.laws C) (f : Callee)
      (known : Triple 𝓤 (C f) (triple 𝓛 (core F 𝓤 kept Ensures))) (qs : Shares (n F)) where
    abbrev T : Terms 𝓤
    T = core F 𝓤 kept Ensures

    -- the core's arguments, and their machine values
    abbrev a : Denots (T.params z.κ)
    a = (z.x.now, z.a)

    -- what the core ensures gives Q, which the entry ensures, and what the form asks of the answer
    abbrev Gives : ((F.Y z.κ).Denot → T.Lasts z.κ a → SProp 𝓤) → Type 1
    Gives Q = (d : (F.Y z.κ).Denot) (ws : T.Lasts z.κ a)
        → ent 𝓤 (T.Ensures z.κ a d ws) (guard 𝓤 (F.sound z.κ d) (Q d ws))

    abbrev vss : Valss (others F z.κ)
    vss = spelt (others F z.κ) (laws F.ps z.κ) z.a

    -- what is had once the core has answered d, whose machine values are vs
    abbrev Had : (F.Y z.κ).Denot → T.Lasts z.κ a → SProp 𝓤 → List Val → List (Item 𝓤) → List (Item 𝓤)
    Had d ws Q vs Γ =
        ‵ ((F.Y z.κ).own_val d vs) ∷ raw (Alive 𝓛 T z.κ qs a) ∷ ‵ (T.lasts z.κ a ws) ∷ raw Q ∷ Γ

    pub over_call : Good → {q : Post 𝓤 H} {Γ : List (Item 𝓤)} (Q : (F.Y z.κ).Denot → T.Lasts z.κ a → SProp 𝓤)
        → Gives Q → ((d : (F.Y z.κ).Denot) (ws : T.Lasts z.κ a) → let v = (F.answers z.κ).val d in
        F.sound z.κ d → Is (F.Y z.κ) d (v ∷ [])
        → Sq 𝓛 (locals 𝓛 E (put F.answer v (at_call F z)) ∷ Had d ws (Q d ws) (v ∷ []) Γ) (runs C Λ E F.rest q))
        → Sq 𝓛 (raw (Alive 𝓛 T z.κ qs a) ∷ ‵ ((row F.T.X).own_val z.x.now (w F z ∷ []))
        ∷ ‵ (owns (others F z.κ) z.a vss) ∷ locals 𝓛 E (at_call F z) ∷ Γ) (runs C Λ E (calling F f) q)
    over_call good {q} {Γ} Q follows k =
        move ! (1 ∷ 2 ∷ []) $ fjoin ! $ move ! (1 ∷ []) $ join ! $ nothing ! $ move ! (1 ∷ []) $ join ! $
        use1 𝓛 (raw (Pre 𝓛 T z.κ qs a (w F z ∷ [], vss))) (id⊢ 𝓤 _) $
        calls_at ! fm (triple 𝓛 T) known ((z.κ, qs, tt, a, (w F z ∷ [], vss)), tt)
        (operands E ! (passes F) (w F z ∷ us F z) (at_call F z) (ok.copy z good.0, there.1) (ap later (ok.sent z))) (λ v.
        answered 𝓛 T z.κ qs a v tt (λ d ws.
        move ! (3 ∷ []) $ use1 𝓛 (given (F.sound z.κ d) (raw (Q d ws))) (follows d ws) $ learn ! (λ sound.
        move ! (1 ∷ 2 ∷ 3 ∷ []) $ peeks ! (F.Y z.κ) (Is (F.Y z.κ)) (shows 𝓛 (F.Y z.κ)) d (v ∷ []) (λ is.
        let u : Val = (F.answers z.κ).val d in
        let e : (v ∷ []) ≡ (u ∷ []) = (F.answers z.κ).tells d (v ∷ []) is in
        let is' : Is (F.Y z.κ) d (u ∷ []) = subst (Is (F.Y z.κ) d) e is in
        let fits = spelled_fits 𝓛 (F.answers z.κ) d is' in
        subst (λ (vs : List Val). Sq 𝓛 (Had d ws (Q d ws) vs (locals 𝓛 E (at_call F z) ∷ Γ))
        (lands C Λ E (place F.answer []) (only vs) F.rest q)) (sym e)
        (move ! (4 ∷ []) $ land ! (from ! (stop !))
        (sets ! E F.answer u (at_call F z) (ok.answer z.κ d fits.0) fits.1) $
        k d ws sound is')))))
