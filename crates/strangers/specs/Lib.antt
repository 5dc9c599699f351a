-- The claim on strangers: its definitions, the section of the rules that is here and not in `model`.
pub mod Sequences
-- And that the amendment of the rule for owners makes nobody an insider and leaves nobody out.
pub mod SameInsiders
