-- The line that is printed when a bridge is done. Profile: its text.
use Rattle.std.specs.Prelude.{ℕ, List, [], ◌∷◌, ◌++◌, codes, decimal}
use Rattle.bridge_command.specs.declared.ends.BridgeTally.{BridgeTally}

-- the line of a bridge: what became of the captured frames
unfoldable pub bridge_tally_line : BridgeTally → List ℕ
bridge_tally_line tally =
    codes "ipencap: offered " ++ decimal tally.offered
    ++ codes ", too short " ++ decimal tally.too_short
    ++ codes ", too long " ++ decimal tally.too_long
    ++ 10 ∷ []
