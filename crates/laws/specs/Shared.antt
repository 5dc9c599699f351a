-- The permission set is what the explanations along the folders that apply share. The argument: in an image that
-- passes the check an item's folder has a lower number, so the folder that an explanation names is in use, its explanation is not
-- refused either, and the way ends.
use Rattle.std.specs.Prelude.{Ok, true, List, ◌≢◌, ◌≡◌, ℕ, zero, suc, ◌<◌, ◌≤◌, T, length}
use Rattle.std.proofs.Common.{inl, inr, ◌∙◌, arith, eq-eqb, ne_eqb, lt-ltb, ltb→lt}
use Rattle.std.proofs.Math.Path.{refl, sym, ap}
use Rattle.model.specs.declared.Answer.{Answer}
use Rattle.model.specs.declared.Explanation.{Explanation}
use Rattle.model.specs.WhoAndWhat.{has, ◌∩◌}
use Rattle.model.specs.Image.{Tables, tables, no_item, folder_flag, item_in, subject_used, item_used, item_rules}
use Rattle.model.specs.Image.{items_hold}
use Rattle.model.specs.Permission.{grant_of, own_set, applied_folder, leads_up, permission_set, explanation_under}
use Rattle.model.specs.Permission.{explanation, put_together}
use Rattle.model.specs.Questions.{Question, image_questions, explain_questions, check, ask, explain}
use Rattle.model.specs.Calls.Ask.{permission_set_of}
use Rattle.model.specs.Shared.{Shares}
use Rattle.model.specs.Shared.Shares.{alone, in_folder}
use Rattle.laws.specs.Tests.{◌and◌, two, true_T, and_l, and_r, eq_or_ne, every_at}
use Rattle.laws.specs.Folders.{folder_used, permission_up}
use Rattle.laws.specs.Answers.{first_passed, image_passed, call_checked, call_passed}
use Rattle.laws.specs.Opens.{tables_yes}
use Rattle.laws.specs.Asks.{asked_set, explain_done}
use Rattle.laws.specs.Reasons.{put_together_lem, not_refused}

-- an item in use has a folder with a lower number, or 0
pub folder_lower : (t : Tables) → T (items_hold t) → (i : ℕ) → T (item_used t.items i) → (item_in t.items i).folder.0 < i
unfolding items_hold
folder_lower t hold zero used = absurd used
folder_lower t hold (suc n) used =
    let rules = every_at (λ k. item_rules t.subjects t.items (suc k)) t.items no_item hold n (ltb→lt n (length t.items) used) in
    ltb→lt (item_in t.items (suc n)).folder.0 (suc n) (search (and_l, and_r))

-- so the folder that applies is lower than the item too, if it is not 0
pub applied_lower : (t : Tables) → T (items_hold t) → (i : ℕ) → T (item_used t.items i) → applied_folder t.items i < i
applied_lower t hold i used =
    let lower : (item_in t.items i).folder.0 < i = folder_lower t hold i used in
    elim (two (has folder_flag (item_in t.items i).flags)) [ inl e ↦ rw e lower | inr e ↦ rw e (omega arith) ]

-- and where it is not 0, the way goes on to it
applied_leads : (t : Tables) → T (items_hold t) → (i : ℕ) → T (item_used t.items i) → applied_folder t.items i ≢ 0
    → leads_up i (applied_folder t.items i) ≡ true
applied_leads t hold i used some-folder =
    rw (ne_eqb (applied_folder t.items i) 0 some-folder, lt-ltb (applied_folder t.items i) i (applied_lower t hold i used))

items_hold_lem : (img : List ℕ) → check img ≡ 0 → T (items_hold (tables img))
unfolding image_questions
items_hold_lem img checked = (image_passed img checked).1.1.1.0

module _ (img : List ℕ) (checked : check img ≡ 0) (s r : ℕ) (asker : T (subject_used (tables img).subjects s)) where
  abbrev t : Tables
  t = tables img

  -- the folder that applies
  abbrev above : ℕ → ℕ
  above = applied_folder t.items

  -- the explanation of an item in use
  module _ (i : ℕ) (used : T (item_used t.items i)) where
    is : explain img s r i ≡ explanation t s r i
    unfolding explain_questions
    is =
        sym
        (explain_done img (Ok t) (tables_yes img checked) s r i t refl (explanation t s r i)
        (sym (first_passed (explain_questions t s i) (asker and used and tt)))
        refl)

    done : (explain img s r i).number ≡ 0
    unfolding explanation_under
    done = ap (λ (e : Explanation). e.number) is

    names : (explain img s r i).folder ≡ above i
    unfolding explanation_under
    names = ap (λ (e : Explanation). e.folder) is

    together : put_together (explain img s r i) ≡ own_set t s r i
    together = ap put_together is ∙ put_together_lem t s r i

    last : above i ≡ 0 → permission_set t s r i ≡ put_together (explain img s r i)
    last none = permission_up t s (grant_of t s r) i ∙ rw (eq-eqb (above i) 0 none) (sym together)

    next : above i ≢ 0
        → permission_set t s r i ≡ put_together (explain img s r i) ∩ permission_set t s r (above i)
    next some-folder =
        permission_up t s (grant_of t s r) i
        ∙ rw (applied_leads t (items_hold_lem img checked) i used some-folder)
        (ap (λ (p : ℕ). p ∩ permission_set t s r (above i)) (sym together))

  -- n is at least i; it falls with the folders' numbers
  shares : (n i : ℕ) → i ≤ n → T (item_used t.items i) → Shares img s r i (permission_set t s r i)
  shares zero zero most used = absurd used
  shares zero (suc i) most used = absurd (omega arith)
  shares (suc n) i most used =
      elim (eq_or_ne (above i) 0) [
        | inl none ↦ rw (last i used none) (alone (done i used) (names i used ∙ none))
        | inr some-folder ↦
            let lower : above i < i = applied_lower t (items_hold_lem img checked) i used in
            let leads : leads_up i (above i) ≡ true = applied_leads t (items_hold_lem img checked) i used some-folder in
            rw (next i used some-folder)
            (in_folder {p = permission_set t s r (above i)} (done i used) (λ none. some-folder (sym (names i used) ∙ none))
            (rw (names i used)
            (shares n (above i) (omega arith)
            (folder_used t.items i (above i) used (true_T (leads_up i (above i)) leads)))))
      ]

-- An explanation that is not refused: the image passes the check, and asker and item are in use.
module _ (img : List ℕ) (s r i : ℕ) (answered : (explain img s r i).number ≡ 0) where
  abbrev own : List Question
  own = explain_questions (tables img) s i

  checked : check img ≡ 0
  checked = call_checked img own (not_refused img s r i answered)

  asker : T (subject_used (tables img).subjects s)
  unfolding explain_questions
  asker = (call_passed img own (not_refused img s r i answered) tt).0

  used : T (item_used (tables img).items i)
  unfolding explain_questions
  used = (call_passed img own (not_refused img s r i answered) tt).1.0

  result : (ask img (permission_set_of s r i)).result ≡ permission_set (tables img) s r i
  result = ap (λ (a : Answer). a.result) (asked_set img s r i checked asker used)

  -- the explanations share what the permission set call answers
  pub explained_shares : Shares img s r i (ask img (permission_set_of s r i)).result
  explained_shares = rw result (shares img checked s r asker i i (omega arith) used)

-- and they share nothing else
pub shares_only : (img : List ℕ) (s r : ℕ) {i p : ℕ} → Shares img s r i p → p ≡ (ask img (permission_set_of s r i)).result
shares_only img s r (alone {i} answered none) =
    let c = checked img s r i answered in
    let a = asker img s r i answered in
    let u = used img s r i answered in
    sym (result img s r i answered ∙ last img c s r a i u (sym (names img c s r a i u) ∙ none))
shares_only img s r (in_folder {i} {p} answered some-folder rest) =
    let c = checked img s r i answered in
    let a = asker img s r i answered in
    let u = used img s r i answered in
    let named : (explain img s r i).folder ≡ applied_folder (tables img).items i = names img c s r a i u in
    let above : ℕ = applied_folder (tables img).items i in
    let there : T (item_used (tables img).items above) =
    folder_used (tables img).items i above u
    (true_T (leads_up i above) (applied_leads (tables img) (items_hold_lem img c) i u (λ none. some-folder (named ∙ none)))) in
    let of_folder : p ≡ permission_set (tables img) s r (applied_folder (tables img).items i) =
    shares_only img s r rest
    ∙ ap (λ (f : ℕ). (ask img (permission_set_of s r f)).result) named
    ∙ ap (λ (x : Answer). x.result) (asked_set img s r (applied_folder (tables img).items i) c a there) in
    ap (λ (q : ℕ). put_together (explain img s r i) ∩ q) of_folder
    ∙ sym (result img s r i answered ∙ next img c s r a i u (λ none. some-folder (named ∙ none)))
