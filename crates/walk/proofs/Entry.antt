-- The lemma: an entry of the form F meets its contract by that of its core. What it supposes, in any model:
--     F                the form of the entry: its parameters, what it answers, and what it does after the core's call
--     kept, Ensures    which lifetimes the core's clauses speak of at exit, and what they say
--     c, met           the core's routine, and that it meets the core's contract
--     Ensured, follows what the entry's clauses say, and that it follows from what the core ensures (`Contract.antt`)
--     ρ, key, f, closed    the entry's code is f, in which a name means the routine that ρ has for it; so run, f does
--                      what a call of the entry, whose name is key, does
--     core, cites      the name of the core in that code
--     body, formed     f is the code of an entry of the form F, and the types of its locals are such that it runs
-- `body` and `formed` (`Form.antt`) are shown by computation of a function that is written out, whatever its contract.
-- `entry` also takes the walk through code of the form F; `Mutable` and `Shared` have it, and state the lemma without.
-- Assumes nothing else.
use mathlib.Core.Path.{◌≡◌, sym, subst}
use Prim.Native.Nat.{suc}
use mathlib.Core.List.{[], ◌∷◌}
use seplogic.Ra.Ura.{Ura}
use mir.Syntax.{Callee, Body, Fn}
use mir.Val.{Val}
use base.Logic.{SProp, ent, sep, emp}
use base.Fml.{flft}
use prog.Model.{Model}
use prog.Routine.{Routine, Env as Routines}
use prog.Wp.{Env, Calls, Loops, WpFn, Wp, at_return, Closed}
use types.Logic.{Logic}
use sound.WpLaws.{FmC, fm_of}
use types.Kit.{‵, raw, ◌⊛◌, runs, at_ret, Sq, ◌$◌, ◌∵◌, !, qed, move, drop, split}
use types.Run.{exec}
use contract.Lifetimes.{Lfts, Shares, toks}
use contract.Running.{Running, tables, tables_of}
use denote.RattleType.{Denots, Valss, owns}
use denote.Triple.Statement.{Triple}
use denote.Triple.Table.{entered, cited}
use Rattle.walk.proofs.Locals.{types_of, declared, apart, arguments}
use Rattle.walk.proofs.Cells.{cells, locals}
use Rattle.walk.proofs.Spelled.{pointer, spelt}
use Rattle.walk.proofs.Frame.{begins}
use Rattle.walk.proofs.Form.{Form, n, code_of, Args, us, at_entry, tests, Formed}
use Rattle.walk.proofs.Contract.{Terms, Pre, Post, triple, Keeps, Clause, Claim, Follows, passed, spelled}
use Rattle.walk.proofs.Contract.{args, core as core-of, entry as entry_of}

module _ {M : Type 1} {𝓤 : Ura M} (𝓛 : Logic 𝓤) (F : Form) (kept : Keeps F) where
  -- from what the parameters' types own, the tokens, and the locals with the arguments, to the return
  open 𝓛 use {H}

  abbrev Walk : Claim F 𝓤 kept → Calls 𝓤 H → Loops 𝓤 H → Callee → Type 1
  Walk Ensured C Λ core =
      (κs : Lfts (suc (n F))) (qs : Shares (suc (n F))) (a : Denots (passed F κs)) (E : Env 𝓤 H) → Formed F (types_of E)
      → Sq 𝓛 (‵ (owns (passed F κs) a (spelt (passed F κs) (spelled F κs) a))
      ∷ (‵ (flft κs.0 qs.0) ⊛ raw (toks 𝓛 (n F) κs.1 qs.1)) ∷ locals 𝓛 E (at_entry F (args F κs a)) ∷ [])
      (runs C Λ E (code_of F core) (at_ret E (Post 𝓛 (entry_of F 𝓤 kept Ensured) κs qs a)))

  -- over any tables of calls in which the core meets its contract
  abbrev pub Walks : Type 2
  Walks =
      (Ensures : Clause F 𝓤 kept) (Ensured : Claim F 𝓤 kept) → Follows F 𝓤 kept Ensures Ensured
      → (C : Calls 𝓤 H) (Λ : Loops 𝓤 H) → FmC 𝓤 H 𝓛.laws C → (core : Callee)
      → Triple 𝓤 (C core) (triple 𝓛 (core-of F 𝓤 kept Ensures)) → Walk Ensured C Λ core

  meets : (Ensured : Claim F 𝓤 kept) (C : Calls 𝓤 H) (Λ : Loops 𝓤 H) (core : Callee) → Walk Ensured C Λ core
      → (f : Fn) → f.body ≡ code_of F core → Formed F (declared f.locals)
      → Triple 𝓤 (WpFn 𝓤 H C Λ f) (triple 𝓛 (entry_of F 𝓤 kept Ensured))
  meets Ensured C Λ core walk f body formed y =
      let T : Terms 𝓤 = entry_of F 𝓤 kept Ensured in
      let κs : Lfts (suc (n F)) = y.0.0 in
      let qs : Shares (suc (n F)) = y.0.1 in
      let a : Denots (passed F κs) = y.0.3 in
      let z : Args F = args F κs a in
      let vss : Valss (passed F κs) = spelt (passed F κs) (spelled F κs) a in
      let Q : Val → SProp 𝓤 = Post 𝓛 T κs qs a in
      begins 𝓛 C Λ f (passed F κs) (spelled F κs) a (toks 𝓛 (suc (n F)) κs qs) Q
      (apart (arguments (declared f.locals) (pointer z.x ∷ us F z))
      (apart (tests F z (declared f.locals)) (formed.able z)).0) (λ E q.
      let First : SProp 𝓤 = sep 𝓤 (cells 𝓛 E (at_entry F z)) (Pre 𝓛 T κs qs a vss) in
      subst (λ (B : Body). ent 𝓤 First (Wp 𝓤 H C Λ E B (at_return 𝓤 H E Q))) (sym body)
      (qed 𝓛 (locals 𝓛 E (at_entry F z) ∷ (((‵ (flft κs.0 qs.0) ⊛ raw (toks 𝓛 (n F) κs.1 qs.1))
      ⊛ ‵ (owns (passed F κs) a vss)) ⊛ raw (emp 𝓤)) ∷ []) ∵ exec ! C Λ E (code_of F core) (at_ret E Q) $
      move ! (1 ∷ []) $ split ! $ split ! $ move ! (2 ∷ []) $ drop ! $ move ! (1 ∷ 0 ∷ []) $
      walk κs qs a E (subst (Formed F) (sym q) formed))) y.0.4

module _ {M : Type 1} {𝓤 : Ura M} (𝓛 : Logic 𝓤) (𝓜 : Model 𝓤 𝓛.H) (𝓡 : Running 𝓤 𝓛.H 𝓜) (F : Form)
    (kept : Keeps F) where
  open 𝓛 use {H}

  abbrev pub Lemma : Type 2
  Lemma =
      (Ensures : Clause F 𝓤 kept) (c : Routine)
      (met : Triple 𝓤 (𝓡.run c) (triple 𝓛 (core-of F 𝓤 kept Ensures)))
      (Ensured : Claim F 𝓤 kept) (follows : Follows F 𝓤 kept Ensures Ensured)
      (ρ : Routines) (key : Callee) (f : Fn) (closed : Closed 𝓤 H (tables 𝓤 H 𝓜 𝓡 ρ).C (tables 𝓤 H 𝓜 𝓡 ρ).Λ key f)
      (core : Callee) (cites : ρ core ≡ c) (body : f.body ≡ code_of F core) (formed : Formed F (declared f.locals))
      → Triple 𝓤 (𝓡.run (ρ key)) (triple 𝓛 (entry_of F 𝓤 kept Ensured))

  pub entry : Walks 𝓛 F kept → Lemma
  unfolding tables_of
  entry walks Ensures c met Ensured follows ρ key f closed core cites body formed =
      let C : Calls 𝓤 H = (tables 𝓤 H 𝓜 𝓡 ρ).C in
      let Λ : Loops 𝓤 H = (tables 𝓤 H 𝓜 𝓡 ρ).Λ in
      entered 𝓤 H (triple 𝓛 (entry_of F 𝓤 kept Ensured)) C Λ key f closed
      (meets 𝓛 F kept Ensured C Λ core
      (walks Ensures Ensured follows C Λ (fm_of 𝓤 H 𝓛.laws (tables_of 𝓤 H 𝓜 (tables 𝓤 H 𝓜 𝓡 ρ))) core
      (cited 𝓤 H (triple 𝓛 (core-of F 𝓤 kept Ensures)) 𝓜 𝓡 ρ core c cites met)) f body formed)
