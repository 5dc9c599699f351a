-- The twelve sets of the sample workshop, proved against the rules: the permission set call answers each of them on the
-- workshop's image, which is accepted. One theorem covers the whole table. Another covers the explanations of these sets, a third
-- three further explanations, two of them refused, a fourth the counts of holders on each item and four refused calls. Two are
-- about owners without an owner line, one about whom the editor search names. Three are about steps: what the call answers, and a
-- set with its explanation. The last six are about folders: sets and explanations, also after calls on an item in a folder, what
-- the check answers on items that break a rule, and what create item answers. All are proved by computation.
use Rattle.std.specs.Prelude.{map, ◌≡◌, refl, T}
use Rattle.model.specs.Lists.{every}
use Rattle.model.specs.Image.{encode}
use Rattle.model.specs.Computing.{computing}
use Rattle.model.specs.Sample.{workshop, twelve, right, reasons, explained_case, further_cases, further_reasons}
use Rattle.model.specs.Sample.{counted_case, count_cases, count_outcomes, without_owner_line, owner_cases, owner_reasons}
use Rattle.model.specs.Sample.{named_right, editor_searches, climbed_right, steps_cases, lower_owner}
use Rattle.model.specs.Sample.{lower_owner_cases, lower_owner_reasons}
use Rattle.model.specs.Sample.{hall, hall_cases, hall_reasons, moved_hall, moved_cases, moved_reasons}
use Rattle.model.specs.Sample.{fifth_items, checked_with, fifth_checks, creations, created, creation_answers}

pub the_twelve : T (every (right (encode workshop)) twelve)
unfolding workshop computing
the_twelve = tt

pub the_reasons : map (explained_case (encode workshop)) twelve ≡ reasons
unfolding workshop computing
the_reasons = refl

pub the_further_reasons : map (explained_case (encode workshop)) further_cases ≡ further_reasons
unfolding workshop computing
the_further_reasons = refl

pub the_counts : map (counted_case (encode workshop)) count_cases ≡ count_outcomes
unfolding workshop computing
the_counts = refl

pub the_owners : T (every (right (encode without_owner_line)) owner_cases)
unfolding workshop computing
the_owners = tt

pub the_owners_reasons : map (explained_case (encode without_owner_line)) owner_cases ≡ owner_reasons
unfolding workshop computing
the_owners_reasons = refl

pub the_editors : T (every named_right editor_searches)
unfolding workshop computing
the_editors = tt

pub the_steps : T (every (climbed_right (encode workshop)) steps_cases)
unfolding workshop computing
the_steps = tt

pub the_lower_owner : T (every (right (encode lower_owner)) lower_owner_cases)
unfolding workshop computing
the_lower_owner = tt

pub the_lower_owners_reason : map (explained_case (encode lower_owner)) lower_owner_cases ≡ lower_owner_reasons
unfolding workshop computing
the_lower_owners_reason = refl

pub the_hall : T (every (right (encode hall)) hall_cases)
unfolding workshop computing
the_hall = tt

pub the_halls_reasons : map (explained_case (encode hall)) hall_cases ≡ hall_reasons
unfolding workshop computing
the_halls_reasons = refl

pub the_moved_item : T (every (right (encode moved_hall)) moved_cases)
unfolding workshop computing
the_moved_item = tt

pub the_moved_items_reason : map (explained_case (encode moved_hall)) moved_cases ≡ moved_reasons
unfolding workshop computing
the_moved_items_reason = refl

pub the_fifth_items : map checked_with fifth_items ≡ fifth_checks
unfolding workshop computing
the_fifth_items = refl

pub the_creations : map created creations ≡ creation_answers
unfolding workshop computing
the_creations = refl
