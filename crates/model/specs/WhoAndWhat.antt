-- The rules, "Numbers and sets": numbers and privilege sets. Subjects are counted from 0, which is the custodian, and items
-- from 1. Role 0 is no role. A privilege set is a number; its bit n says whether position n is in the set. The positions are
-- read (0), replace (1), discard (2), annotate (3), create items (4), define subjects (5) and edit an access list (6). All
-- higher ones belong to the host.
use Rattle.std.specs.Prelude.{Bool, cond, ℕ, zero, suc, ◌*◌, ◌/◌, ◌%◌, ◌^◌, ◌-◌, eqb, ltb}
use Rattle.std.specs.Int.Bits.{bit_and, bit_or}

abbrev pub custodian : ℕ
custodian = 0

-- the positions that the calls ask for
abbrev pub create_items : ℕ
create_items = 4

abbrev pub define_subjects : ℕ
define_subjects = 5

abbrev pub edit_list : ℕ
edit_list = 6

-- how many bytes a privilege field has
abbrev pub privilege_width : ℕ
privilege_width = 4

-- how many positions a privilege field of w bytes has
abbrev pub positions_of : ℕ → ℕ
positions_of w = 8 * w

-- "All": every position of a privilege field of w bytes
abbrev pub everything : ℕ → ℕ
everything w = 256 ^ w - 1

-- position n is in the set p
unfoldable pub has : ℕ → ℕ → Bool
has n p = eqb (p / 2 ^ n % 2) 1

-- the privileges in either set, and those in both
infixl 60 ◌∪◌
infixl 61 ◌∩◌
abbrev pub ◌∪◌ : ℕ → ℕ → ℕ
a ∪ b = bit_or a b

abbrev pub ◌∩◌ : ℕ → ℕ → ℕ
a ∩ b = bit_and a b

-- every privilege of a is in b
abbrev pub within : ℕ → ℕ → Bool
within a b = eqb (a ∩ b) a

-- The rule of the code's table of masks: the set with position n alone; past the last position, the empty set.
abbrev pub mask_of : ℕ → ℕ
mask_of n = cond (ltb n 32) (2 ^ n) 0

-- The calls that need a position by question 15, numbered as in the code's table.
abbrev pub define_call : ℕ
define_call = 0

abbrev pub create_call : ℕ
create_call = 1

abbrev pub set_line_call : ℕ
set_line_call = 2

abbrev pub remove_line_call : ℕ
remove_line_call = 3

-- a position that no set has, not even a set of 64 bits
abbrev pub no_position : ℕ
no_position = 64

-- The position that each of these calls needs by question 15. It is also the rule of the code's table. Any other number has
-- `no_position`.
abbrev pub needed_position : ℕ → ℕ
needed_position zero = define_subjects
needed_position (suc zero) = create_items
needed_position (suc (suc zero)) = edit_list
needed_position (suc (suc (suc zero))) = edit_list
needed_position (suc (suc (suc (suc n)))) = no_position
