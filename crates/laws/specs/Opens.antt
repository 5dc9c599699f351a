-- What is answered unless a question is answered no, as code holds it: a result whose refusal has the question's number. How
-- code arrives at each case, and what each case says; then the same of opening an image.
use Rattle.std.specs.Prelude.{Bool, true, false, cond, List, ◌≢◌, ◌≡◌, refl, ℕ, eqb, Result, Ok, Err, IsErrAnd}
use Rattle.std.proofs.Common.{sym, ap, ◌∙◌, eqb-true}
use Rattle.std.proofs.lemmas.Bool.{false≢true, eqb-false}
use Rattle.std.proofs.lemmas.Result.{err_from_is_err_and}
use Rattle.model.specs.declared.Layout.{Layout}
use Rattle.model.specs.declared.refusal.Refusal.{Refusal}
use Rattle.model.specs.declared.refusal.Refusal.TheVariants.{BadLength, BadLayout, BadSubjectRow, BadItemRow, BadLineRow, BadGrantRow}
use Rattle.model.specs.declared.refusal.Refusal.TheVariants.{UnusedRowNotZero, UnknownCaller, UnknownSubject, UnknownItem, BadCountsLength}
use Rattle.model.specs.declared.refusal.Refusal.TheVariants.{NotAList, OutOfRange, NotPermitted, OutsideTree, NoSuchRow, NotTheGrantor}
use Rattle.model.specs.declared.refusal.Refusal.TheVariants.{TableFull, NoEditor}
use Rattle.model.specs.Image.{Tables, layout_of, tables_by, tables}
use Rattle.model.specs.Questions.{refusal_number, by_number, refused_by, unless, check, opened, opened_tables}

-- no refusal has the number 0
pub refusal_some : (e : Refusal) → eqb (refusal_number e) 0 ≡ false
refusal_some BadLength = refl
refusal_some BadLayout = refl
refusal_some BadSubjectRow = refl
refusal_some BadItemRow = refl
refusal_some BadLineRow = refl
refusal_some BadGrantRow = refl
refusal_some UnusedRowNotZero = refl
refusal_some UnknownCaller = refl
refusal_some UnknownSubject = refl
refusal_some UnknownItem = refl
refusal_some BadCountsLength = refl
refusal_some NotAList = refl
refusal_some OutOfRange = refl
refusal_some NotPermitted = refl
refusal_some OutsideTree = refl
refusal_some NoSuchRow = refl
refusal_some NotTheGrantor = refl
refusal_some TableFull = refl
refusal_some NoEditor = refl

pub refusal_not : (e : Refusal) → refusal_number e ≢ 0
refusal_not e = eqb-false (refusal_number e) 0 (refusal_some e)

ok_err : {A B : Type 0} (x : A) (n : ℕ) → ◌≡◌ {A = Result A ℕ} (Ok x) (Err n) → B
ok_err x n e = absurd (false≢true cc)

-- m is the refusal, or 0; x is what is answered without one
module _ {A : Type 0} (m : ℕ) (x : A) where
  -- how code arrives at each case
  pub unless_no : (e : Refusal) → refusal_number e ≡ m → by_number {A = A} (Err e) ≡ unless m x
  unless_no e is = rw (← is, refusal_some e)

  pub unless_yes : (y : A) → 0 ≡ m → y ≡ x → by_number (Ok y) ≡ unless m x
  unless_yes y all is = rw (← all, is)

  -- what each case says; r is the result that code holds
  module _ (r : Result A Refusal) (is : by_number r ≡ unless m x) where
    pub unless_err : (e : Refusal) → r ≡ Err e → refusal_number e ≡ m
    unless_err e case = go (eqb m 0) refl (sym (ap by_number case) ∙ is)
      where
        go : (b : Bool) → eqb m 0 ≡ b → Err (refusal_number e) ≡ cond b (Ok x) (Err m) → refusal_number e ≡ m
        go true z same = ok_err x (refusal_number e) (sym same)
        go false z same = cc

    unless_says : (y : A) → r ≡ Ok y → (m ≡ 0) × (y ≡ x)
    unless_says y case = go (eqb m 0) refl (sym (ap by_number case) ∙ is)
      where
        go : (b : Bool) → eqb m 0 ≡ b → Ok y ≡ cond b (Ok x) (Err m) → (m ≡ 0) × (y ≡ x)
        go true z same = (eqb-true m 0 z, cc)
        go false z same = ok_err y m same

    pub unless_passed : (y : A) → r ≡ Ok y → m ≡ 0
    unless_passed y case = (unless_says y case).0

    pub unless_value : (y : A) → r ≡ Ok y → y ≡ x
    unless_value y case = (unless_says y case).1

    pub unless_number : refused_by r ≡ m
    unless_number = go r refl
      where
        go : (s : Result A Refusal) → r ≡ s → refused_by s ≡ m
        go (Ok y) case = sym (unless_passed y case)
        go (Err e) case = unless_err e case

  -- both at once
  pub unless_also : (r : Result A Refusal) → by_number r ≡ unless m x → (by_number r ≡ unless m x) × (refused_by r ≡ m)
  unless_also r is = (is, unless_number r is)

-- m is 0 where questions that answer m leave no refusal
pub none_refused : {A : Type 0} (asked : Result A Refusal) (m : ℕ) → refused_by asked ≡ m → (x : A) → asked ≡ Ok x → m ≡ 0
none_refused asked m said x was = sym said ∙ ap refused_by was

-- What the exit of a `?` hands on: r is returned where o holds a refusal.
module _ {A B : Type 0} (o : Result A Refusal) (e : Refusal) (case : o ≡ Err e) (r : Result B Refusal)
    (gave : IsErrAnd r (λ given. given ≡ e)) where
  pub handed_on : r ≡ Err e
  handed_on = let is = err_from_is_err_and r gave in is.1 ∙ ap Err is.2

  pub handed_no : (m : ℕ) (x : B) → refusal_number e ≡ m → by_number r ≡ unless m x
  handed_no m x is = ap by_number handed_on ∙ unless_no m x e is

  pub handed_number : (m : ℕ) → refusal_number e ≡ m → refused_by r ≡ m
  handed_number m is = ap refused_by handed_on ∙ is

-- Opening an image; o is what the code has.
module _ (img : List ℕ) where
  pub opened_no : (e : Refusal) → refusal_number e ≡ check img → by_number {A = Layout} (Err e) ≡ opened img
  unfolding opened
  opened_no e is = unless_no (check img) (layout_of img) e is

  pub opened_yes : (lay : Layout) → lay ≡ layout_of img → 0 ≡ check img → by_number (Ok lay) ≡ opened img
  unfolding opened
  opened_yes lay e all = unless_yes (check img) (layout_of img) lay all e

  module _ (o : Result Layout Refusal) (is : by_number o ≡ opened img) where
    pub opened_also : (by_number o ≡ opened img) × (refused_by o ≡ check img)
    unfolding opened
    opened_also = unless_also (check img) (layout_of img) o is

    pub opened_err : (e : Refusal) → o ≡ Err e → refusal_number e ≡ check img
    unfolding opened
    opened_err = unless_err (check img) (layout_of img) o is

    pub opened_passed : (lay : Layout) → o ≡ Ok lay → check img ≡ 0
    unfolding opened
    opened_passed = unless_passed (check img) (layout_of img) o is

    pub layout_with : (lay : Layout) → o ≡ Ok lay → lay ≡ layout_of img
    unfolding opened
    layout_with = unless_value (check img) (layout_of img) o is

    -- the same of its tables
    pub tables_err : (e : Refusal) → o ≡ Err e → by_number {A = Tables} (Err e) ≡ opened_tables img
    unfolding opened_tables
    tables_err e case = unless_no (check img) (tables img) e (opened_err e case)

    pub tables_ok : (lay : Layout) → o ≡ Ok lay → (t : Tables) → t ≡ tables_by lay img → by_number (Ok t) ≡ opened_tables img
    unfolding opened_tables
    tables_ok lay case t cut =
        unless_yes (check img) (tables img) t (sym (opened_passed lay case))
        (cut ∙ ap (λ (l : Layout). tables_by l img) (layout_with lay case))

  -- the tables of an image that passes the check
  pub tables_yes : check img ≡ 0 → by_number (Ok (tables img)) ≡ opened_tables img
  unfolding opened_tables
  tables_yes checked = unless_yes (check img) (tables img) (tables img) (sym checked) refl

  module _ (r : Result Tables Refusal) (is : by_number r ≡ opened_tables img) where
    pub refused_tables : (e : Refusal) → r ≡ Err e → refusal_number e ≡ check img
    unfolding opened_tables
    refused_tables = unless_err (check img) (tables img) r is

    pub tables_passed : (t : Tables) → r ≡ Ok t → check img ≡ 0
    unfolding opened_tables
    tables_passed = unless_passed (check img) (tables img) r is

    pub tables_with : (t : Tables) → r ≡ Ok t → t ≡ tables img
    unfolding opened_tables
    tables_with = unless_value (check img) (tables img) r is
