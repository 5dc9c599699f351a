-- The claim on strangers. First, that a walk meets exactly the followed lists.
pub mod Walk
-- Then what strangers cannot reach: the watched items; all that the permission set is read from; the calls, one by one.
pub mod Watched
pub mod Untouched
pub mod Calls
-- Last the theorem, `demand_3`.
pub mod Demand3
