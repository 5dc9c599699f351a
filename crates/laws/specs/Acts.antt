-- What a call that writes leaves. A refused call leaves the bytes as they were. A call that is done leaves the bytes of the
-- tables that its rule gives. If the image was accepted before the call, it is accepted afterwards.
use Rattle.std.specs.Prelude.{Result, Ok, Err, IsErrAnd, Bool, true, false, List, [], ◌∷◌, ◌++◌, ◌≢◌, ◌≡◌, refl, ℕ, suc, ◌<◌, T, eqb, get_or}
use Rattle.std.proofs.Common.{sym, ap, ◌∙◌, arith, Fits, eqb-true, ne_eqb}
use Rattle.std.specs.Int.{w8}
use Rattle.std.proofs.lemmas.Bool.{eqb-false}
use Rattle.model.specs.declared.Answer.{Answer}
use Rattle.model.specs.declared.Layout.{Layout}
use Rattle.model.specs.declared.refusal.Refusal.{Refusal}
use Rattle.model.specs.Lists.{Bytes}
use Rattle.model.specs.Image.{Tables, tables_by, tables, encode}
use Rattle.model.specs.Calls.{Change, Handed, after, change_result}
use Rattle.model.specs.Calls.Change.{define_subject, set_grant, remove_grant, set_line, remove_line, create_item, bind, hand_over}
use Rattle.model.specs.Questions.{Question, image_questions, questions, first_no, answer, check, opened, opened_tables, Accepted, act}
use Rattle.model.specs.Questions.{refusal_number, by_number, refused_by, answer_of}
use Rattle.laws.specs.WellFormed.{WellFormed, fitting, Passed}
use Rattle.laws.specs.Answers.{numbered, call_checked, call_passed}
use Rattle.laws.specs.Opens.{handed_on, refusal_some, refusal_not, tables_err, tables_ok}
use Rattle.laws.specs.Asks.{result_image, result_no, result_done, number_said}
use Rattle.laws.specs.Kept.{well_formed_after}
use Rattle.laws.specs.Back.{tables_well_formed}
use Rattle.laws.specs.There.{tables_there, encode_accepted}

-- A refused call changes no byte, and it answers 0 beside its refusal.

pub refused_keeps : (img : List ℕ) (c : Change) → (act img c).answer.number ≢ 0 → (act img c).image ≡ img
unfolding act
refused_keeps img c refused = rw (ne_eqb (first_no (image_questions img ++ questions (tables img) c)) 0 refused)

pub refused_result : (img : List ℕ) (c : Change) → (act img c).answer.number ≢ 0 → (act img c).answer.result ≡ 0
unfolding act
refused_result img c refused = rw (ne_eqb (first_no (image_questions img ++ questions (tables img) c)) 0 refused)

pub done_leaves : (img : List ℕ) (c : Change) → (act img c).answer.number ≡ 0 → (act img c).image ≡ encode (after (tables img) c)
unfolding act
done_leaves img c done = rw done

-- no call has a question with the number 0
all_numbered : (t : Tables) (c : Change) → T (numbered (questions t c))
unfolding questions
all_numbered t (define_subject c r p v) = tt
all_numbered t (set_grant c s r d v) = tt
all_numbered t (remove_grant c s r) = tt
all_numbered t (set_line c r a k s v) = tt
all_numbered t (remove_line c r a k s) = tt
all_numbered t (create_item c r a f p) = tt
all_numbered t (bind c i a) = tt
all_numbered t (hand_over c i o) = tt

-- if a call is done, every one of its questions was answered yes
module _ (img : List ℕ) (c : Change) (done : (act img c).answer.number ≡ 0) where
  pub done_passed : Passed (questions (tables img) c)
  unfolding act
  done_passed = call_passed img (questions (tables img) c) done (all_numbered (tables img) c)

  pub done_checked : check img ≡ 0
  unfolding act
  done_checked = call_checked img (questions (tables img) c) done

module _ (img : List ℕ) (c : Change) (handed : Handed c) (accepted : Accepted img) where
  pub done_well_formed : (act img c).answer.number ≡ 0 → WellFormed (after (tables img) c)
  done_well_formed done = well_formed_after (tables img) c handed (tables_well_formed img accepted) (done_passed img c done)

  -- the tables afterwards are the ones that the rule gives
  pub done_tables : (act img c).answer.number ≡ 0 → tables (act img c).image ≡ after (tables img) c
  done_tables done = rw (done_leaves img c done) (tables_there (after (tables img) c) (fitting (done_well_formed done)))

  -- the image afterwards is accepted, whether the call was refused or done
  pub act_accepted : Accepted (act img c).image
  act_accepted = go (eqb (act img c).answer.number 0) refl
    where
      go : (b : Bool) → eqb (act img c).answer.number 0 ≡ b → Accepted (act img c).image
      go true e =
          let done : (act img c).answer.number ≡ 0 = eqb-true (act img c).answer.number 0 e in
          rw (done_leaves img c done) (encode_accepted (after (tables img) c) (done_well_formed done))
      go false e = rw (refused_keeps img c (eqb-false (act img c).answer.number 0 e)) accepted

  -- A fact P about the tables holds afterwards if it held before and if it holds of the tables that the rule gives when every
  -- question is answered yes.
  pub act_keeps : (P : Tables → Type 0)
      → P (tables img)
      → (WellFormed (tables img) → Passed (questions (tables img) c) → P (after (tables img) c))
      → P (tables (act img c).image)
  act_keeps P before by-rule = go (eqb (act img c).answer.number 0) refl
    where
      go : (b : Bool) → eqb (act img c).answer.number 0 ≡ b → P (tables (act img c).image)
      go true e =
          let done : (act img c).answer.number ≡ 0 = eqb-true (act img c).answer.number 0 e in
          rw (done_tables done) (by-rule (tables_well_formed img accepted) (done_passed img c done))
      go false e = rw (refused_keeps img c (eqb-false (act img c).answer.number 0 e)) before

-- A call that writes, with one law for each way in which its code returns: the answer, and the image afterwards, which follows
-- from the answer. The image is refused, one of the call's own questions is answered no, or the call is done. o is what
-- opening the image answered.

abbrev pub Settled : List ℕ → Change → Answer → List ℕ → Type 0
Settled img c a new = (a ≡ (act img c).answer) × (new ≡ (act img c).image)

-- r is what the exit of a `?` returns where o holds a refusal
pub act_handed : {A : Type 0} (img : List ℕ) (c : Change) (o : Result A Refusal) (e : Refusal) → o ≡ Err e
    → (r : Result ℕ Refusal) → IsErrAnd r (λ given. given ≡ e)
    → Settled img c (answer (refusal_number e) 0) img
    → Settled img c (answer_of r) img
act_handed img c o e case r gave settled = (ap answer_of (handed_on o e case r gave) ∙ settled.0, settled.1)

module _ (img : List ℕ) (o : Result Layout Refusal) (is : by_number o ≡ opened img) (c : Change) where
  abbrev own : Tables → List Question
  own t = questions t c

  act_kept : (e : Refusal) → answer (refusal_number e) 0 ≡ (act img c).answer → Settled img c (answer (refusal_number e) 0) img
  act_kept e so = (
    so,
    sym (refused_keeps img c (λ z. refusal_not e (sym (number_said (act img c).answer (refusal_number e) 0 so) ∙ z))),
  )

  pub act_image : (e : Refusal) → o ≡ Err e → Settled img c (answer (refusal_number e) 0) img
  unfolding act
  act_image e case =
      act_kept e (result_image img (Err e) (tables_err img o is e case) own (λ t. change_result t c) e refl)

  module _ (lay : Layout) (case : o ≡ Ok lay) where
    abbrev t : Tables
    t = tables_by lay img

    there : by_number (Ok t) ≡ opened_tables img
    there = tables_ok img o is lay case t refl

    pub act_no : (e : Refusal) → refusal_number e ≡ first_no (questions (tables_by lay img) c)
        → Settled img c (answer (refusal_number e) 0) img
    unfolding act
    act_no e h =
        act_kept e (result_no img (Ok t) there own (λ t. change_result t c) t refl (refusal_number e) (refusal_some e) h)

    -- the same by what the call's questions answered
    pub act_asked : {A : Type 0} (asked : Result A Refusal) → refused_by asked ≡ first_no (questions (tables_by lay img) c)
        → (e : Refusal) → asked ≡ Err e
        → Settled img c (answer (refusal_number e) 0) img
    act_asked asked said e was = act_no e (sym (ap refused_by was) ∙ said)

    pub act_done : (v : ℕ)
        → first_no (questions (tables_by lay img) c) ≡ 0
        → v ≡ change_result (tables_by lay img) c
        → answer 0 v ≡ (act img c).answer
    unfolding act
    act_done v h f = result_done img (Ok t) there own (λ t. change_result t c) t refl v (sym h) f

-- What is known where the answer is 0 and a result v.
module _ (img : List ℕ) (c : Change) (v : ℕ) (so : answer 0 v ≡ (act img c).answer) where
  number_done : (act img c).answer.number ≡ 0
  number_done = number_said (act img c).answer 0 v so

  pub was_passed : Passed (questions (tables img) c)
  was_passed = done_passed img c number_done

  pub was_accepted : Bytes img → Accepted img
  was_accepted bytes = record { bytes = bytes; checked = done_checked img c number_done }

  pub leaves : (new : List ℕ) → new ≡ encode (after (tables img) c) → new ≡ (act img c).image
  leaves new left = left ∙ sym (done_leaves img c number_done)

-- A slice is a list of bytes: code knows that each of its numbers fits in 8 bits.
pub slice_bytes : (s : List ℕ) → ((i : ℕ) → Fits w8 (get_or s i 0)) → Bytes s
slice_bytes [] h = tt
slice_bytes (x ∷ s) h = (byte x (h 0), slice_bytes s (λ i. h (suc i)))
  where
    byte : (x : ℕ) → Fits w8 x → x < 256
    byte x f = omega (arith, f)
