-- A call that asks, with one law for each way in which its code returns: the image is refused, one of the call's own questions
-- is answered no, or the call is done.
use Rattle.std.specs.Prelude.{false, List, ◌++◌, ◌≡◌, refl, ℕ, T, eqb, length, Result, Ok, Err}
use Rattle.std.proofs.Common.{sym, ap, ◌∙◌}
use Rattle.model.specs.declared.Answer.{Answer}
use Rattle.model.specs.declared.Explanation.{Explanation}
use Rattle.model.specs.declared.refusal.Refusal.{Refusal}
use Rattle.model.specs.Image.{Tables, tables, subject_used, item_used}
use Rattle.model.specs.Permission.{permission_set, explanation}
use Rattle.model.specs.Calls.{Ask, ask_result, holder_counts}
use Rattle.model.specs.Calls.Ask.{check_image, permission_set_of}
use Rattle.model.specs.Questions.{Question, first_no, image_questions, ask_questions, explain_questions}
use Rattle.model.specs.Questions.{holders_questions, check, opened_tables, refusal_number, by_number}
use Rattle.model.specs.Questions.{answer, answered, ask, refused_explanation, explained, explain, count_holders}
use Rattle.laws.specs.Tests.{◌and◌}
use Rattle.laws.specs.Answers.{first_passed, first_left, first_right, asked_all}
use Rattle.laws.specs.Opens.{refusal_some, refusal_not, tables_yes, refused_tables, tables_passed, tables_with}

-- Any call. Its own questions qs, which come after those of the image, depend on the tables. r is what opening the image
-- answered.
module _ (img : List ℕ) (r : Result Tables Refusal) (is : by_number r ≡ opened_tables img) (qs : Tables → List Question) where
  -- if the image is refused, the call answers the image's refusal
  number_image : (e : Refusal) → r ≡ Err e → refusal_number e ≡ first_no (image_questions img ++ qs (tables img))
  unfolding check image_questions
  number_image e case =
      first_left (image_questions img) (qs (tables img)) (refusal_number e) tt (refused_tables img r is e case) (refusal_not e)

  -- if the image is opened, the call's own questions decide
  number_own : (t : Tables) → r ≡ Ok t → first_no (qs t) ≡ first_no (image_questions img ++ qs (tables img))
  unfolding check image_questions
  number_own t case =
      rw (tables_with img r is t case)
      (first_right (image_questions img) (qs (tables img)) (check img) tt refl (first_no (qs (tables img)))
      (tables_passed img r is t case) refl)

  -- What the call answers is made by `say` of its refusal and of its result v, which depends on the tables. With a refusal n
  -- it is `refused n`, whatever the result.
  module _ {A B : Type 0} (say : ℕ → A → B) (refused : ℕ → B)
      (says-refused : (n : ℕ) (x : A) → eqb n 0 ≡ false → refused n ≡ say n x) (v : Tables → A) where
    abbrev answers : B
    answers = say (first_no (image_questions img ++ qs (tables img))) (v (tables img))

    pub answers_image : (e : Refusal) → r ≡ Err e → refused (refusal_number e) ≡ answers
    answers_image e case =
        says-refused (refusal_number e) (v (tables img)) (refusal_some e)
        ∙ ap (λ (k : ℕ). say k (v (tables img))) (number_image e case)

    module _ (t : Tables) (case : r ≡ Ok t) where
      answers_own : answers ≡ say (first_no (qs t)) (v t)
      answers_own =
          ap (λ (k : ℕ). say k (v (tables img))) (sym (number_own t case))
          ∙ ap (λ (u : Tables). say (first_no (qs t)) (v u)) (sym (tables_with img r is t case))

      pub answers_no : (k : ℕ) → eqb k 0 ≡ false → k ≡ first_no (qs t) → refused k ≡ answers
      answers_no k some h = says-refused k (v t) some ∙ sym (answers_own ∙ rw (← h))

      pub answers_done : (x : A) → 0 ≡ first_no (qs t) → x ≡ v t → say 0 x ≡ answers
      answers_done x h f = sym (answers_own ∙ rw (← h, ← f))

-- A call whose answer is a number and a result v.
answered_refused : (n r : ℕ) → eqb n 0 ≡ false → answer n 0 ≡ answered n r
answered_refused n r some = rw some

module _ (img : List ℕ) (r : Result Tables Refusal) (is : by_number r ≡ opened_tables img)
    (qs : Tables → List Question) (v : Tables → ℕ) where
  abbrev result : Answer
  result = answered (first_no (image_questions img ++ qs (tables img))) (v (tables img))

  pub result_image : (e : Refusal) → r ≡ Err e → answer (refusal_number e) 0 ≡ result
  result_image = answers_image img r is qs answered (λ n. answer n 0) answered_refused v

  module _ (t : Tables) (case : r ≡ Ok t) where
    pub result_no : (k : ℕ) → eqb k 0 ≡ false → k ≡ first_no (qs t) → answer k 0 ≡ result
    result_no = answers_no img r is qs answered (λ n. answer n 0) answered_refused v t case

    pub result_done : (x : ℕ) → 0 ≡ first_no (qs t) → x ≡ v t → answer 0 x ≡ result
    result_done = answers_done img r is qs answered (λ n. answer n 0) answered_refused v t case

module _ (img : List ℕ) (r : Result Tables Refusal) (is : by_number r ≡ opened_tables img) (q : Ask) where
  pub ask_image : (e : Refusal) → r ≡ Err e → answer (refusal_number e) 0 ≡ ask img q
  unfolding ask
  ask_image = result_image img r is (λ t. ask_questions t q) (λ t. ask_result t q)

  module _ (t : Tables) (case : r ≡ Ok t) where
    pub ask_no : (e : Refusal) → refusal_number e ≡ first_no (ask_questions t q) → answer (refusal_number e) 0 ≡ ask img q
    unfolding ask
    ask_no e = result_no img r is (λ t. ask_questions t q) (λ t. ask_result t q) t case (refusal_number e) (refusal_some e)

    pub ask_done : (v : ℕ) → 0 ≡ first_no (ask_questions t q) → v ≡ ask_result t q → answer 0 v ≡ ask img q
    unfolding ask
    ask_done = result_done img r is (λ t. ask_questions t q) (λ t. ask_result t q) t case

-- the permission set call on an image that passes the check, for a subject and an item that are in use
pub asked_set : (img : List ℕ) (s r i : ℕ)
    → check img ≡ 0
    → T (subject_used (tables img).subjects s)
    → T (item_used (tables img).items i)
    → ask img (permission_set_of s r i) ≡ answer 0 (permission_set (tables img) s r i)
unfolding ask_questions ask_result
asked_set img s r i checked subject item =
    sym
    (ask_done img (Ok (tables img)) (tables_yes img checked) (permission_set_of s r i) (tables img) refl
    (permission_set (tables img) s r i)
    (sym (first_passed (ask_questions (tables img) (permission_set_of s r i)) (subject and item and tt)))
    refl)

-- explain, whose answer is a record
explained_refused : (n : ℕ) (e : Explanation) → eqb n 0 ≡ false → refused_explanation n ≡ explained n e
explained_refused n e some = rw some

module _ (img : List ℕ) (o : Result Tables Refusal) (is : by_number o ≡ opened_tables img) (s r i : ℕ) where
  pub explain_image : (e : Refusal) → o ≡ Err e → refused_explanation (refusal_number e) ≡ explain img s r i
  unfolding explain
  explain_image =
      answers_image img o is (λ t. explain_questions t s i) explained refused_explanation explained_refused
      (λ t. explanation t s r i)

  module _ (t : Tables) (case : o ≡ Ok t) where
    pub explain_no : (e : Refusal) → refusal_number e ≡ first_no (explain_questions t s i)
        → refused_explanation (refusal_number e) ≡ explain img s r i
    unfolding explain
    explain_no e =
        answers_no img o is (λ t. explain_questions t s i) explained refused_explanation explained_refused
        (λ t. explanation t s r i) t case (refusal_number e) (refusal_some e)

    pub explain_done : (x : Explanation) → 0 ≡ first_no (explain_questions t s i) → x ≡ explanation t s r i → x ≡ explain img s r i
    unfolding explain
    explain_done =
        answers_done img o is (λ t. explain_questions t s i) explained refused_explanation explained_refused
        (λ t. explanation t s r i) t case

-- A call that also changes what it is lent promises two things: its answer a, and then, which follows from the answer, what it
-- leaves.
pub also : {A B : Type 0} (a a' : A) (b b' : B) → a ≡ a' → (a ≡ a' → b ≡ b') → (a ≡ a') × (b ≡ b')
also a a' b b' e f = (e, f e)

-- the number of the answer that the definition gives, where the code answers k
pub number_said : (b : Answer) (k v : ℕ) → answer k v ≡ b → b.number ≡ k
number_said b k v is = ap (λ (x : Answer). x.number) (sym is)

-- Count holders: the answer, and the counts afterwards.
module _ (img : List ℕ) (r : Result Tables Refusal) (is : by_number r ≡ opened_tables img) (i : ℕ) (old : List ℕ) where
  abbrev asked : Tables → List Question
  asked t = holders_questions t i (length old)

  -- a refused call leaves the counts as they were
  count_kept : (e : Refusal) → answer (refusal_number e) 0 ≡ (count_holders img i old).answer
      → (answer (refusal_number e) 0 ≡ (count_holders img i old).answer) × (old ≡ (count_holders img i old).counts)
  unfolding count_holders
  count_kept e so = (so, rw (number_said (count_holders img i old).answer (refusal_number e) 0 so, refusal_some e))

  pub count_image : (e : Refusal) → r ≡ Err e
      → (answer (refusal_number e) 0 ≡ (count_holders img i old).answer) × (old ≡ (count_holders img i old).counts)
  unfolding count_holders
  count_image e case = count_kept e (result_image img r is asked (λ t. 0) e case)

  module _ (t : Tables) (case : r ≡ Ok t) where
    pub count_no : (e : Refusal) → refusal_number e ≡ first_no (asked t)
        → (answer (refusal_number e) 0 ≡ (count_holders img i old).answer) × (old ≡ (count_holders img i old).counts)
    unfolding count_holders
    count_no e h = count_kept e (result_no img r is asked (λ t. 0) t case (refusal_number e) (refusal_some e) h)

    pub count_done : (new : List ℕ) → 0 ≡ first_no (asked t) → new ≡ holder_counts t i (length old)
        → (answer 0 0 ≡ (count_holders img i old).answer) × (new ≡ (count_holders img i old).counts)
    unfolding count_holders
    count_done new h left =
        let so : answer 0 0 ≡ (count_holders img i old).answer = result_done img r is asked (λ t. 0) t case 0 h refl in
        (so, left ∙ rw (number_said (count_holders img i old).answer 0 0 so, tables_with img r is t case))

-- the check asks nothing more than the questions of the image
module _ (img : List ℕ) (r : Result Tables Refusal) (is : by_number r ≡ opened_tables img) where
  pub check_done : (t : Tables) → r ≡ Ok t → answer 0 0 ≡ ask img check_image
  unfolding ask_questions ask_result
  check_done t case = ask_done img r is check_image t case 0 asked_all refl
