-- What a number that is answered for steps says of the subjects, without a climb: by following `up`, the step from
-- each to the next above it.
use Rattle.std.specs.Prelude.{◌≢◌, ◌≡◌, ℕ, zero, suc, ◌<◌}
use Rattle.model.specs.Tree.{outside}

abbrev pub follow : (ℕ → ℕ) → ℕ → ℕ → ℕ
follow up zero s = s
follow up (suc n) s = follow up n (up s)

-- n steps lead from s to h, and fewer do not
pub record Leads (up : ℕ → ℕ) (s h n : ℕ) : Type 0 where
  pub there : follow up n s ≡ h
  pub not_before : (m : ℕ) → m < n → follow up m s ≢ h

-- that many lead from s to h, or no number of them does
pub data HowFar (up : ℕ → ℕ) (s h : ℕ) : ℕ → Type 0 where
  leads : {n : ℕ} → n < outside → Leads up s h n → HowFar up s h n
  never : ((n : ℕ) → follow up n s ≢ h) → HowFar up s h outside
