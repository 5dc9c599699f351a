-- The questions of the calls that change items, as the code asks them.
use Rattle.std.specs.Prelude.{false, ◌≡◌, ◌≢◌, ℕ, eqb}
use Rattle.std.proofs.Common.{ne_eqb}
use Rattle.model.specs.WhoAndWhat.{custodian}

-- 15 of hand over: only the custodian may
pub custodian_alone : (c : ℕ) → c ≢ 0 → eqb c custodian ≡ false
custodian_alone c h = ne_eqb c 0 h
