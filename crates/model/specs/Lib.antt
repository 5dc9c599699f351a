-- The definitions of the library. The first three files are general: several sections of docs/RULES.md use them. Then there is
-- one file for each section, in that page's order. One section is not here: the sequences of the claim on strangers are
-- defined beside their theorem, in the crate `strangers`. Four files are for theorems alone: `Reasons` says what an explanation
-- says of the rows, `Printed` has the rule for owners before it was amended, `HowFar` says what steps say of the subjects,
-- `Shared` what explanations along folders have in common. A call's contract cites the other definitions and nothing else.
-- The laws about them are in the crate `laws`. Only the twelve sets of the sample workshop and other cases of it are proved
-- here; `Computing` names what those proofs unfold.
pub mod Lists
pub mod Sorted
pub mod Tree
pub mod WhoAndWhat
pub mod Image
pub mod Permission
pub mod Reasons
pub mod Printed
pub mod HowFar
pub mod Calls
pub mod Questions
pub mod Shared
pub mod Sample
pub mod Computing
pub mod Twelve
