-- What the explanations along the folders that apply share, asked for one after the other. It stands here for
-- theorems alone: that it is the permission set is a theorem of `laws`.
use Rattle.std.specs.Prelude.{List, ◌≢◌, ◌≡◌, ℕ}
use Rattle.model.specs.WhoAndWhat.{◌∩◌}
use Rattle.model.specs.Permission.{put_together}
use Rattle.model.specs.Questions.{explain}

-- Subject s asks under role r. On item i the explanations share p: no folder applies, and the item's explanation put together is p;
-- or a folder does, the explanations from there on share a set, and p is what the item's own has in common with it. None of them
-- is refused.
pub data Shares (img : List ℕ) (s r : ℕ) : ℕ → ℕ → Type 0 where
  alone : {i : ℕ} → (explain img s r i).number ≡ 0 → (explain img s r i).folder ≡ 0 → Shares img s r i (put_together (explain img s r i))
  in_folder : {i p : ℕ}
      → (explain img s r i).number ≡ 0
      → (explain img s r i).folder ≢ 0
      → Shares img s r (explain img s r i).folder p
      → Shares img s r i (put_together (explain img s r i) ∩ p)
