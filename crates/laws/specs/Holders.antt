-- What count holders leaves: if it is refused, the counts that it was lent; if it is done, for each position the number of subjects
-- for which the permission set call answers a set with that position.
use Rattle.std.specs.Prelude.{true, List, ◌++◌, ◌≢◌, ◌≡◌, ℕ, ◌<◌, ◌≤◌, T, eqb, length, get_or, None}
use Rattle.std.proofs.Common.{sym, lt→ltb}
use Rattle.std.proofs.Math.Path.{ap}
use borrow.Author.Tests.{eqb-true, ne_eqb}
use Rattle.model.specs.declared.Answer.{Answer}
use Rattle.model.specs.Lists.{how_many}
use Rattle.model.specs.WhoAndWhat.{custodian, everything, positions_of, has}
use Rattle.model.specs.Image.{Tables, width_in, tables, item_used}
use Rattle.model.specs.Permission.{permission_set, own_under, operation_under, object_under, part_on, deciding_rule, everyone_set}
use Rattle.model.specs.Calls.{holders, holder_counts}
use Rattle.model.specs.Calls.Ask.{permission_set_of}
use Rattle.model.specs.Questions.{first_no, image_questions, holders_questions, check, Accepted, ask, count_holders}
use Rattle.laws.specs.Tests.{T_true}
use Rattle.laws.specs.Counts.{how_many_most, how_many_some, how_many_same, each_count, each_at}
use Rattle.laws.specs.Folders.{permission_all}
use Rattle.laws.specs.Sets.{has_or, has_and, has_everything}
use Rattle.laws.specs.WellFormed.{WellFormed, Passed}
use Rattle.laws.specs.Answers.{call_checked, call_passed}
use Rattle.laws.specs.Back.{tables_well_formed}
use Rattle.laws.specs.Asks.{asked_set}
use Rattle.laws.specs.Kept.{custodian_has}

-- the custodian holds every position on every item: they are all in its own set there
custodian_owns : (t : Tables) → WellFormed t → (n : ℕ) → n < positions_of (width_in t) → (i : ℕ)
    → has n (own_under t custodian None i) ≡ true
unfolding own_under operation_under object_under part_on deciding_rule everyone_set
custodian_owns t well n h i =
    let all : has n (everything (width_in t)) ≡ true = has_everything (width_in t) n h in
    rw (custodian_has t well, has_and n, has_or n, all)

custodian_holds : (t : Tables) → WellFormed t → (i n : ℕ) → n < positions_of (width_in t) → has n (permission_set t custodian 0 i) ≡ true
custodian_holds t well i n h = permission_all t custodian None n (custodian_owns t well n h) i

module _ (img : List ℕ) (i : ℕ) (old : List ℕ) where
  pub refused_untouched : (count_holders img i old).answer.number ≢ 0 → (count_holders img i old).counts ≡ old
  unfolding count_holders
  refused_untouched refused =
      rw (ne_eqb (first_no (image_questions img ++ holders_questions (tables img) i (length old))) 0 refused)

  module _ (done : (count_holders img i old).answer.number ≡ 0) where
    own_passed : Passed (holders_questions (tables img) i (length old))
    unfolding count_holders holders_questions
    own_passed = call_passed img (holders_questions (tables img) i (length old)) done tt

    checked : check img ≡ 0
    unfolding count_holders
    checked = call_checked img (holders_questions (tables img) i (length old)) done

    item_in_use : T (item_used (tables img).items i)
    unfolding holders_questions
    item_in_use = own_passed.0

    -- there was a count for each position
    pub counts_whole : length old ≡ positions_of (width_in (tables img))
    unfolding holders_questions
    counts_whole =
        eqb-true (length old) (positions_of (width_in (tables img)))
        (T_true (eqb (length old) (positions_of (width_in (tables img)))) own_passed.1.0)

    left : (count_holders img i old).counts ≡ holder_counts (tables img) i (length old)
    unfolding count_holders
    left = rw done

    pub counts_as_many : length (count_holders img i old).counts ≡ length old
    unfolding holder_counts
    counts_as_many = rw left (each_count (holders (tables img) i) (length old))

    -- the permission set call is done for every subject in use, and it answers the permission set
    asked : (s : ℕ) → s < length (tables img).subjects → (ask img (permission_set_of s 0 i)).result ≡ permission_set (tables img) s 0 i
    asked s used =
        ap (λ (x : Answer). x.result)
        (asked_set img s 0 i checked (lt→ltb s (length (tables img).subjects) used) item_in_use)

    pub counts_asked : (n : ℕ) → n < length old
        → get_or (count_holders img i old).counts n 0
        ≡ how_many (λ s. has n (ask img (permission_set_of s 0 i)).result) (length (tables img).subjects)
    unfolding holders holder_counts
    counts_asked n inside =
        rw (left, each_at (holders (tables img) i) (length old) n inside)
        (how_many_same (λ s. has n (permission_set (tables img) s 0 i)) (λ s. has n (ask img (permission_set_of s 0 i)).result)
        (length (tables img).subjects) (λ s used. ap (has n) (sym (asked s used))))

    -- no count is higher than the number of subjects
    pub counts_most : (n : ℕ) → n < length old → get_or (count_holders img i old).counts n 0 ≤ length (tables img).subjects
    counts_most n inside =
        rw (counts_asked n inside)
        (how_many_most (λ s. has n (ask img (permission_set_of s 0 i)).result) (length (tables img).subjects))

    -- the custodian is counted for every position
    pub custodian_counted : Accepted img → (n : ℕ) → n < length old → 1 ≤ get_or (count_holders img i old).counts n 0
    unfolding holders holder_counts
    custodian_counted accepted n inside =
        let well : WellFormed (tables img) = tables_well_formed img accepted in
        rw (left, each_at (holders (tables img) i) (length old) n inside)
        (how_many_some (λ s. has n (permission_set (tables img) s 0 i)) custodian (length (tables img).subjects) well.custodian_there
        (custodian_holds (tables img) well i n (rw counts_whole at inside)))
