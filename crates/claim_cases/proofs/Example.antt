-- That the example is one, and that the theorem applies to it.
use Rattle.std.specs.Prelude.{not, List, [], ◌∷◌, ◌≢◌, ◌≡◌, ℕ, T, eqb}
use Rattle.std.proofs.Common.{eqb→eq, T_not}
use Rattle.std.specs.List.{AllByRecursion}
use Rattle.model.specs.Sorted.{same}
use Rattle.model.specs.Image.{tables}
use Rattle.model.specs.Permission.{permission_set}
use Rattle.model.specs.Questions.{act}
use Rattle.model.specs.Computing.{computing}
use Rattle.model.specs.Sample.{workshop}
use Rattle.laws.specs.Tests.{◌and◌, true_T}
use Rattle.laws.specs.KeyOrder.{same_self}
use Rattle.strangers.specs.Sequences.{run, writing, Stranger, Covered, Unchanged}
use Rattle.strangers.proofs.Walk.{walk, folders_within}
use Rattle.strangers.proofs.Demand3.{demand_3}
use Rattle.claim_cases.specs.Without.Clause.{nothing}
use Rattle.claim_cases.specs.Whole.{covered_whole}
use Rattle.claim_cases.specs.Tried.{start_of, later_of, proper, covered_but}
use Rattle.claim_cases.specs.Tried.{accepted_is, first_handed, second_handed, covered_is}
use Rattle.claim_cases.specs.Example.{its_call, example, stop}

-- by computation: the trial is proper and covered, the call is done and leaves other bytes, and the set is 11
computed : AllByRecursion T
    (proper example
    ∷ covered_but nothing example
    ∷ eqb (act stop its_call).answer.number 0
    ∷ not (same (act stop its_call).image stop)
    ∷ eqb (permission_set (tables stop) 4 7 2) 11
    ∷ [])
unfolding workshop computing proper covered_but run writing walk folders_within
computed = tt and tt and tt and tt and tt and tt

pub covered : Covered stop example.second 4 7 2
covered = covered_whole stop example.second 4 7 2 (covered_is nothing example computed.1.0)

pub a_stranger : Stranger (tables stop) 2 3
unfolding writing
a_stranger = covered.strangers_only.0

pub its_call_is_done : (act stop its_call).answer.number ≡ 0
its_call_is_done = eqb→eq (act stop its_call).answer.number 0 computed.1.1.0

differ : (a b : List ℕ) → T (not (same a b)) → a ≢ b
differ a b p e = T_not (same a b) p (rw e (true_T (same b b) (same_self b)))

pub its_call_changes_the_image : (act stop its_call).image ≢ stop
its_call_changes_the_image = differ (act stop its_call).image stop computed.1.1.1.0

pub the_set : permission_set (tables stop) 4 7 2 ≡ 11
the_set = eqb→eq (permission_set (tables stop) 4 7 2) 11 computed.1.1.1.1.0

-- The theorem applies.
pub unchanged : Unchanged stop (later_of example) 4 7 2
unchanged =
    demand_3 (start_of example)
    (accepted_is example computed.0)
    example.first
    example.second
    (first_handed example computed.0)
    (second_handed example computed.0)
    4 7 2 covered
