-- The theorem `demand_3`, about images and both whole sequences. The first sequence leads to an accepted image. Each call
-- of the second keeps the asker's grant and all that is watched. So the set is what it was, and so is the answer.
use mathlib.Core.List.{List, [], ◌∷◌}
use Rattle.std.specs.Prelude.{◌≡◌, refl, ℕ, T}
use Rattle.std.proofs.Common.{sym, ap, ◌∙◌}
use Rattle.std.specs.List.{AllByRecursion}
use Rattle.model.specs.Image.{Tables, tables, item_used}
use Rattle.model.specs.Permission.{grant_of, permission_set}
use Rattle.model.specs.Calls.{Change, caller_of, Handed, after}
use Rattle.model.specs.Questions.{questions, answer, act, Accepted}
use Rattle.laws.specs.WellFormed.{WellFormed, Passed}
use Rattle.laws.specs.Back.{tables_well_formed}
use Rattle.laws.specs.Asks.{asked_set}
use Rattle.laws.specs.Acts.{act_accepted, act_keeps}
use Rattle.strangers.specs.Sequences.{Step, run, writing, Stranger, Claim, Demand3}
use Rattle.strangers.specs.Sequences.Step.{changes, reads}
use Rattle.strangers.specs.Sequences.Claim.{no_role, granted}
use Rattle.strangers.proofs.Untouched.{Untouched, untouched_at_stop, subject_still, item_still, permission_same}
use Rattle.strangers.proofs.Calls.{untouched_after, grant_kept}

-- every sequence leads from an accepted image to an accepted one
pub run_accepted : (img : List ℕ) (steps : List Step) → Accepted img → AllByRecursion Handed (writing steps) → Accepted (run img steps)
unfolding run writing
run_accepted img [] accepted handed = accepted
run_accepted img (changes c ∷ steps) accepted handed =
    run_accepted (act img c).image steps (act_accepted img c handed.0 accepted) handed.1
run_accepted img (reads q ∷ steps) accepted handed = run_accepted img steps accepted handed

module _ (stop : List ℕ) (asker role document : ℕ) where
  -- what is kept, besides that the image is accepted
  record Kept (u : Tables) : Type 0 where
    untouched : Untouched (tables stop) document u
    grant_same : grant_of u asker role ≡ grant_of (tables stop) asker role

  module _ (well : WellFormed (tables stop)) (present : T (item_used (tables stop).items document)) where
    -- It is kept after a call: the asker claims no role, or one whose grantor is not the caller.
    kept_after : (u : Tables) (c : Change) (more : List Change)
        → Stranger (tables stop) document (caller_of c)
        → Claim (tables stop) asker (c ∷ more) role
        → Kept u
        → WellFormed u
        → Passed (questions u c)
        → Kept (after u c)
    kept_after u c more stranger claim kept now q =
        record {
          untouched = untouched_after (tables stop) document well present u now kept.untouched c stranger.outsider q;
          grant_same = grant claim kept.grant_same;
        }
      where
        grant : {r : ℕ}
            → Claim (tables stop) asker (c ∷ more) r
            → grant_of u asker r ≡ grant_of (tables stop) asker r
            → grant_of (after u c) asker r ≡ grant_of (tables stop) asker r
        grant no_role same = refl
        grant (granted {r} g held others) same =
            grant_kept (tables stop) document u now g asker r c (same ∙ held) others.0 stranger.outsider q ∙ sym held

    -- a claim that is met beside c and the calls after it is also met beside those after it alone
    rest : (c : Change) (more : List Change) → {r : ℕ} → Claim (tables stop) asker (c ∷ more) r → Claim (tables stop) asker more r
    rest c more no_role = no_role
    rest c more (granted g held others) = granted g held others.1

    -- it is kept after a sequence
    kept_run : (img : List ℕ) (steps : List Step)
        → Accepted img
        → AllByRecursion Handed (writing steps)
        → AllByRecursion (λ c. Stranger (tables stop) document (caller_of c)) (writing steps)
        → Claim (tables stop) asker (writing steps) role
        → Kept (tables img)
        → Kept (tables (run img steps))
    unfolding run writing
    kept_run img [] accepted handed strangers claim kept = kept
    kept_run img (changes c ∷ steps) accepted handed strangers claim kept =
        kept_run (act img c).image steps (act_accepted img c handed.0 accepted) handed.1 strangers.1
        (rest c (writing steps) claim)
        (act_keeps img c handed.0 accepted Kept kept (kept_after (tables img) c (writing steps) strangers.0 claim kept))
    kept_run img (reads q ∷ steps) accepted handed strangers claim kept = kept_run img steps accepted handed strangers claim kept

pub demand_3 : Demand3
demand_3 start accepted first second handed-first handed-second asker role document covered =
    record {
      set_same = set_same;
      answer_then = asked_set stop asker role document at_stop.checked covered.asker_present covered.document_present;
      answer_later =
          asked_set later asker role document (run_accepted stop second at_stop handed-second).checked
          (subject_still (tables stop) document (tables later) kept.untouched asker covered.asker_present)
          (item_still (tables stop) document (tables later) kept.untouched document covered.document_present)
          ∙ ap (answer 0) set_same;
    }
  where
    stop : List ℕ
    stop = run start first

    later : List ℕ
    later = run stop second

    at_stop : Accepted stop
    at_stop = run_accepted start first accepted handed-first

    well : WellFormed (tables stop)
    well = tables_well_formed stop at_stop

    kept : Kept stop asker role document (tables later)
    kept =
        kept_run stop asker role document well covered.document_present stop second at_stop handed-second
        covered.strangers_only covered.claimed
        record { untouched = untouched_at_stop (tables stop) document well; grant_same = refl }

    set_same : permission_set (tables later) asker role document ≡ permission_set (tables stop) asker role document
    set_same =
        permission_same (tables stop) document (tables later) kept.untouched well covered.document_present
        asker covered.asker_present role kept.grant_same
