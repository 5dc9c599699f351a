-- Trials: tables, calls and a question, tried by computation. If the calls change the set, and all clauses hold but for the
-- one left out, the trial refutes the claim without that clause.
use Rattle.std.specs.Prelude.{Bool, false, ◌&&◌, ◌||◌, not, List, ◌≢◌, ◌≡◌, refl, ℕ, ◌<◌, ◌^◌, T, eqb, None, Option, Some}
use Rattle.std.proofs.Common.{inl, inr, sym, ◌∙◌}
use Rattle.std.proofs.Math.Dec.{ltb, ltb→lt, eqb→eq}
use Rattle.model.specs.declared.GrantRow.{GrantRow}
use Rattle.std.specs.List.{AllByRecursion}
use Rattle.model.specs.Lists.{every}
use Rattle.model.specs.Image.{Tables, tables, encode, subject_used, item_used}
use Rattle.model.specs.Permission.{grant_of, permission_set}
use Rattle.model.specs.Calls.{Change, caller_of, numbers_of, sets_of, Handed}
use Rattle.model.specs.Questions.{check, Accepted}
use Rattle.laws.specs.Tests.{◌and◌, and_l, and_r, or_cases, every_all, all_map}
use Rattle.strangers.specs.Sequences.{Step, run, writing}
use Rattle.claim_cases.specs.Without.{Clause, same_clause, StrangerBut, ClaimBut, CoveredBut, Without}
use Rattle.claim_cases.specs.Without.ClaimBut.{no_role, granted, not_granted}
use Rattle.claim_cases.specs.Insiders.{or_if, or_if_is, unequal, apart, roles_apart, apart_is, roles_apart_is}

-- A trial: tables, the two sequences, the question, and the set at the stop and later.
pub record Trial : Type 0 where
  pub start : Tables
  pub first : List Step
  pub second : List Step
  pub asker : ℕ
  pub role : ℕ
  pub document : ℕ
  pub set_then : ℕ
  pub set_later : ℕ

abbrev pub start_of : Trial → List ℕ
start_of x = encode x.start

abbrev pub stop_of : Trial → List ℕ
stop_of x = run (start_of x) x.first

abbrev pub later_of : Trial → List ℕ
later_of x = run (stop_of x) x.second

abbrev set_in : Trial → List ℕ → ℕ
set_in x img = permission_set (tables img) x.asker x.role x.document

-- numbers of 32 bits
abbrev small : List ℕ → Bool
small = every (λ v. ltb v (2 ^ 32))

abbrev handed : List Step → Bool
handed steps = every (λ c. small (numbers_of c) && small (sets_of c)) (writing steps)

-- the image is accepted, and the calls are handed numbers of 32 bits
unfoldable pub proper : Trial → Bool
proper x = every (λ b. ltb b 256) (start_of x) && eqb (check (start_of x)) 0 && handed x.first && handed x.second

-- the sets are as the trial says, and they differ
unfoldable pub changed : Trial → Bool
changed x = eqb (set_in x (stop_of x)) x.set_then && eqb (set_in x (later_of x)) x.set_later && not (eqb x.set_later x.set_then)

-- Tests for the records of `Without`. The test of a clause counts as passed if that clause is the one left out.
module _ (left_out : Clause) where
  abbrev stranger_but : Tables → ℕ → ℕ → Bool
  stranger_but t document s =
      or_if (same_clause left_out Clause.caller_present) (subject_used t.subjects s)
      && apart left_out t document s
      && or_if (same_clause left_out Clause.no_role_of_insiders) (roles_apart left_out t document s)

  -- the claimed role has a grant, and its grantor makes no call
  abbrev silent : List Change → Option GrantRow → Bool
  silent added None = or_if (same_clause left_out Clause.role_granted) false
  silent added (Some g) = or_if (same_clause left_out Clause.grantor_silent) (every (λ c. not (eqb (caller_of c) g.grantor.0)) added)

  abbrev claim_but : Tables → ℕ → List Change → ℕ → Bool
  claim_but t asker added role = eqb role 0 || silent added (grant_of t asker role)

  unfoldable pub covered_but : Trial → Bool
  covered_but x =
      or_if (same_clause left_out Clause.asker_present) (subject_used (tables (stop_of x)).subjects x.asker)
      && or_if (same_clause left_out Clause.document_present) (item_used (tables (stop_of x)).items x.document)
      && every (λ c. stranger_but (tables (stop_of x)) x.document (caller_of c)) (writing x.second)
      && claim_but (tables (stop_of x)) x.asker (writing x.second) x.role

  stranger_is : (t : Tables) (document s : ℕ) → T (stranger_but t document s) → StrangerBut left_out t document s
  stranger_is t document s p =
      record {
        outsider =
            record {
              present = or_if_is (same_clause left_out Clause.caller_present) (subject_used t.subjects s) (search (and_l, and_r));
              outside = apart_is left_out t document s (search (and_l, and_r));
              holds_none = λ d.
                  roles_apart_is left_out t document s
                  (or_if_is (same_clause left_out Clause.no_role_of_insiders) (roles_apart left_out t document s)
                  (search (and_l, and_r)) d);
            };
      }

  claim_is : (t : Tables) (asker : ℕ) (added : List Change) (role : ℕ)
      → T (claim_but t asker added role)
      → ClaimBut left_out t asker added role
  claim_is t asker added role p =
      elim (or_cases (eqb role 0) (silent added (grant_of t asker role)) p) [
        | inl e ↦ rw (eqb→eq role 0 e) no_role
        | inr k ↦ grant (grant_of t asker role) refl k
      ]
    where
      left : (d : Dec (left_out ≡ Clause.role_granted)) → T (or_if d false) → left_out ≡ Clause.role_granted
      left (yes e) h = e
      left (no d) h = absurd h

      grant : (o : Option GrantRow) → grant_of t asker role ≡ o → T (silent added o) → ClaimBut left_out t asker added role
      grant None e h = not_granted e (left (same_clause left_out Clause.role_granted) h)
      grant (Some g) e h =
          granted g e
          (λ d.
          all_map (λ c. unequal (caller_of c) g.grantor.0) added
          (every_all (λ c. not (eqb (caller_of c) g.grantor.0)) added (unless d)))
        where
          unless : left_out ≢ Clause.grantor_silent → T (every (λ c. not (eqb (caller_of c) g.grantor.0)) added)
          unless = or_if_is (same_clause left_out Clause.grantor_silent) (every (λ c. not (eqb (caller_of c) g.grantor.0)) added) h

  pub covered_is : (x : Trial) → T (covered_but x) → CoveredBut left_out (stop_of x) x.second x.asker x.role x.document
  unfolding covered_but
  covered_is x p =
      let t : Tables = tables (stop_of x) in
      record {
        asker_there =
            or_if_is (same_clause left_out Clause.asker_present) (subject_used t.subjects x.asker) (search (and_l, and_r));
        document_there =
            or_if_is (same_clause left_out Clause.document_present) (item_used t.items x.document) (search (and_l, and_r));
        strangers_only =
            all_map (λ c. stranger_is t x.document (caller_of c)) (writing x.second)
            (every_all (λ c. stranger_but t x.document (caller_of c)) (writing x.second) (search (and_l, and_r)));
        claimed = claim_is t x.asker (writing x.second) x.role (search (and_l, and_r));
      }

all_small : (vs : List ℕ) → T (small vs) → AllByRecursion (λ v. v < 2 ^ 32) vs
all_small vs p = all_map (λ v. ltb→lt v (2 ^ 32)) vs (every_all (λ v. ltb v (2 ^ 32)) vs p)

handed_is : (steps : List Step) → T (handed steps) → AllByRecursion Handed (writing steps)
handed_is steps p = all_map of_call (writing steps) (every_all (λ c. small (numbers_of c) && small (sets_of c)) (writing steps) p)
  where
    of_call : (c : Change) → T (small (numbers_of c) && small (sets_of c)) → Handed c
    of_call c h =
        all_small (numbers_of c) (and_l (small (numbers_of c)) (small (sets_of c)) h)
        and all_small (sets_of c) (and_r (small (numbers_of c)) (small (sets_of c)) h)

module _ (x : Trial) (p : T (proper x)) where
  pub accepted_is : Accepted (start_of x)
  unfolding proper
  accepted_is =
      record {
        bytes = all_map (λ b. ltb→lt b 256) (start_of x) (every_all (λ b. ltb b 256) (start_of x) (search (and_l, and_r)));
        checked = eqb→eq (check (start_of x)) 0 (search (and_l, and_r));
      }

  pub first_handed : AllByRecursion Handed (writing x.first)
  unfolding proper
  first_handed = handed_is x.first (search (and_l, and_r))

  pub second_handed : AllByRecursion Handed (writing x.second)
  unfolding proper
  second_handed = handed_is x.second (search (and_l, and_r))

pub refutes : (left_out : Clause) (x : Trial) → T (proper x) → T (covered_but left_out x) → T (changed x) → ¬ Without left_out
unfolding changed
refutes left_out x p covered differ claim =
    unequal x.set_later x.set_then (search (and_l, and_r)) equal
  where
    equal : x.set_later ≡ x.set_then
    equal =
        sym (eqb→eq (set_in x (later_of x)) x.set_later (search (and_l, and_r)))
        ∙ (claim (start_of x) (accepted_is x p) x.first x.second (first_handed x p) (second_handed x p)
        x.asker x.role x.document
        (covered_is left_out x covered)
        ).set_same
        ∙ eqb→eq (set_in x (stop_of x)) x.set_then (search (and_l, and_r))
