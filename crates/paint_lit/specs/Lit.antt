-- Pixels whose floors are dark.
--
--   DarkUpTo sel i n e    the floors i up to e are, and e is n at most
use Rattle.std.specs.Prelude.{ℕ, ◌≤◌, List}
use Rattle.paint_rules.specs.Floor.{dark}
use Rattle.paint_blocks.specs.Blocks.{Alike}

pub record DarkUpTo (sel : List ℕ) (i n e : ℕ) : Type 0 where
  pub from : i ≤ e
  pub upto : e ≤ n
  pub dark : Alike dark sel i e
