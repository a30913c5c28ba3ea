-- What an entry is: a function that hands its parameters on to a core.
--     fn entry(x: &mut X, others ..) -> R { let t = core(*x, others ..); x.a = t.b; x.c[t.i] = t.d; t.result }
--     fn entry(x: &X, others ..) -> R { core(*x, others ..) }
-- The two differ in the reference and in what is done after the call; a `Form` says which. Their code begins alike: the
-- record is copied into a local, each `&mut` slice is lent on, and the core is called. The compiler numbers the locals
-- regularly: 0 is the result, 1 the reference, then come the other parameters, the core's answer where it is not the
-- result, the copy of the record, two for each slice that is lent on, and those that come after the call.
--     code_of F core    the code of an entry of the form F.        Formed F τs      locals of the types τs serve it
-- Assumes nothing.
use mathlib.Core.Path.{◌≡◌}
use Prim.Native.Nat.{ℕ, suc}
use mathlib.Core.Bool.{Bool}
use mathlib.Core.Option.{none, some}
use mathlib.Core.List.{List, [], ◌∷◌}
use seplogic.Ra.Ura.{Ura}
use lib.Dec.{T}
use mir.Syntax.{Callee, Ty, deref, place, copy, rv_opd, Body, seq, assign, call}
use mir.Val.{Val, has_ty}
use base.Fml.{Lft, Fml}
use types.Logic.{Logic}
use contract.Lifetimes.{Lfts}
use denote.Laws.{Is, Tells, Lawful}
use denote.Memory.{lone}
use denote.RattleType.{RattleType, Denots}
use denote.Ref.{Bor}
use denote.Signature.{Slot, plain, types_at}
use denote.Struct.Declared.{Declared, row, fields, shape}
use denote.Struct.Struct.{Plains, layout}
use denote.Struct.Laws as LL
use Rattle.walk.proofs.Locals.{Contents, put, held, contents, takes, taken, arguments, conj}
use Rattle.walk.proofs.Lending.{Lend, Slices, relends, all_lent, sources, wanted, lendable}
use Rattle.walk.proofs.Cells.{copies}
use Rattle.walk.proofs.Spelled.{Spelled, pointer, values}
use Rattle.walk.proofs.Parameters.{Param, count, slots_of, laws, lends_of, slices_of, passes_of}

-- the record: a struct of plain data
pub record Record : Type 2 where
  pub X : Declared
  pub laws : LL.Laws X
  pub plains : Plains (fields X)
  pub copyable : LL.Copyables X.parts

pub record Form : Type 2 where
  pub T : Record
  pub ps : List Param  -- the parameters after the record
  -- the reference at each lifetime, and what it points at
  pub Ref : Lft → RattleType
  pub seen : (κ : Lft) → (Ref κ).Denot → Bor T.X.D
  pub tells : (κ : Lft) → Tells (Ref κ) (Is (Ref κ)) (λ x. pointer (seen κ x) ∷ [])
  pub lawful : (κ : Lft) {M : Type 1} {𝓤 : Ura M} (𝓛 : Logic 𝓤) → Lawful 𝓛 (Ref κ)
  -- what a contract binds of the reference at exit, what it says of that, and how its clauses see the reference there
  pub Last : Type 0
  pub left : (κ : Lft) → (Ref κ).Denot → Last → Fml
  pub Seen : Type 0
  pub see : (κ : Lft) → (Ref κ).Denot → Last → Seen
  -- what the core answers, and what the entry returns; the entry's result, and the last value, of such an answer to the
  -- record; and what the entry asks of the answer, so that what it does with it is safe
  pub Y : Lfts (count ps) → RattleType
  pub R : Lfts (count ps) → RattleType
  pub answers : (κ : Lfts (count ps)) → Spelled (Y κ)
  pub results : (κ : Lfts (count ps)) → Spelled (R κ)
  pub gives : (κ : Lfts (count ps)) → (Y κ).Denot → (R κ).Denot
  pub to : (κ : Lfts (count ps)) → T.X.D → (Y κ).Denot → Last
  pub sound : (κ : Lfts (count ps)) → (Y κ).Denot → Type 0
  -- the local of the answer, that of the record's copy, what is done after the call, and what that asks of the locals' types
  pub answer : ℕ
  pub copied : ℕ
  pub rest : Body
  pub typed : List Ty → Type 0

module _ (F : Form) where
  -- the lifetimes of the core's parameters, and the types of those after the record, and of all
  abbrev pub n : ℕ
  n = count F.ps

  abbrev pub slots : List (Slot n)
  slots = slots_of F.ps

  abbrev pub all_slots : List (Slot n)
  all_slots = plain (λ _. row F.T.X) ∷ slots

  abbrev pub others : Lfts n → List RattleType
  others κ = types_at slots κ

  -- ---- the code
  abbrev pub lends : List Lend
  lends = lends_of (suc F.copied) F.ps

  abbrev pub passes : List ℕ
  passes = F.copied ∷ passes_of (suc F.copied) F.ps

  abbrev pub calling : Callee → Body
  calling core = seq (call core (copies passes) (place F.answer [])) F.rest

  abbrev pub code_of : Callee → Body
  code_of core =
      seq (assign (place F.copied []) (rv_opd (copy (place 1 (deref (layout (shape F.T.X)) ∷ [])))))
      (relends lends (calling core))

  -- ---- the arguments, and what the locals hold: at the entry, once the record is copied, and at the call
  pub record Args : Type 0 where
    pub κ : Lfts n
    pub x : Bor F.T.X.D
    pub a : Denots (others κ)

  module _ (z : Args) where
    -- the machine values of the record and of the others
    abbrev pub w : Val
    w = LL.val F.T.X F.T.laws z.x.now

    abbrev pub us : List Val
    us = values (others z.κ) (laws F.ps z.κ) z.a

    abbrev pub at_entry : Contents
    at_entry = none ∷ some (pointer z.x) ∷ held us

    abbrev pub at_copy : Contents
    at_copy = put F.copied w at_entry

    abbrev pub slices : Slices lends
    slices = slices_of (suc F.copied) F.ps z.κ z.a

    abbrev pub at_call : Contents
    at_call = all_lent lends slices at_copy

    -- the tests: the arguments fit their locals, the slices can be lent on, and the operands of the call are there. The
    -- record is not among them: where it holds arrays, its machine value is of its type only if they have their lengths
    module _ (τs : List Ty) where
      abbrev pub lent_tests : List Bool
      lent_tests = lendable lends slices τs

      abbrev pub passed_tests : List Bool
      passed_tests = taken (1 ∷ passes_of (suc F.copied) F.ps) τs (pointer z.x ∷ us)

      abbrev pub tests : List Bool
      tests = conj (arguments τs (pointer z.x ∷ us)) ∷ conj lent_tests ∷ conj passed_tests ∷ []

  -- Of a function that is written out each line is shown by computation, whatever its contract says.
  pub record Formed (τs : List Ty) : Type 0 where
    -- what is lent on are slices;
    pub lent : (z : Args) → sources lends (slices z) τs (at_copy z) ≡ wanted lends (slices z)
    -- at the call the reference is still in local 1, and what is sent to the core are the record and the others;
    pub sent : (z : Args) → contents (1 ∷ passes) (at_call z) ≡ held (pointer z.x ∷ w z ∷ us z)
    -- and each local takes what is stored in it: of the record, the answer and the result, if it is a value of its type
    pub able : (z : Args) → T (conj (tests z τs))
    pub copy : (z : Args) → T (has_ty (layout (shape F.T.X)) (w z)) → T (takes F.copied τs (w z))
    pub rest : F.typed τs
    pub answer : (κ : Lfts n) (d : (F.Y κ).Denot) → let v = (F.answers κ).val d in
        T (has_ty (lone (F.Y κ).mir) v) → T (takes F.answer τs v)
    pub result : (κ : Lfts n) (r : (F.R κ).Denot) → let v = (F.results κ).val r in
        T (has_ty (lone (F.R κ).mir) v) → T (takes 0 τs v)
