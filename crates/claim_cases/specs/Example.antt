-- An example. In the sample workshop subject 3 is a stranger of item 2. A call that it makes is done and changes the image.
-- What subject 4 may do with item 2 under its role stays the same.
use Rattle.std.specs.Prelude.{List, [], ◌∷◌, ℕ}
use Rattle.model.specs.Calls.{Change}
use Rattle.model.specs.Calls.Change.{define_subject, set_grant, bind}
use Rattle.model.specs.Calls.Ask.{permission_set_of}
use Rattle.model.specs.Sample.{workshop}
use Rattle.strangers.specs.Sequences.Step.{changes, reads}
use Rattle.strangers.specs.Sequences.Reading.{asks}
use Rattle.claim_cases.specs.Tried.{Trial, stop_of}

-- 3 grants a role to 4
abbrev pub its_call : Change
its_call = set_grant 3 4 9 3 64

-- First 1 defines a subject. Then 3 makes its call, 2 asks for a set, and 3 tries to take item 2 off its list, which is
-- refused.
abbrev pub example : Trial
example =
    record {
      start = workshop;
      first = changes (define_subject 1 0 2 255) ∷ [];
      second = changes its_call ∷ reads (asks (permission_set_of 2 0 2)) ∷ changes (bind 3 2 0) ∷ [];
      asker = 4;
      role = 7;
      document = 2;
      set_then = 11;
      set_later = 11;
    }

abbrev pub stop : List ℕ
stop = stop_of example
