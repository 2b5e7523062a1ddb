-- The readings of some bytes, by the one at their front.
use Rattle.std.proofs.Common.{◌≡◌, ℕ, ◌+◌, Bool, true, false, cond, Option, List, [], drop, ap, sym, ◌∙◌}
use Rattle.addr_rules.specs.declared.filter.Label.{Label}
use Rattle.gse_spec.specs.Packet.{Reading, gse_length, is_over, reading_at_front, readings_after}
use Rattle.gse_law.specs.Streams.{readings_from}
use Rattle.gse_law.proofs.Readings.{one_by_one}

-- none at the end
pub none_over : (b : List ℕ) (before : Option Label) → is_over b ≡ true → readings_from b before ≡ []
none_over b before over = one_by_one b before ∙ ap (λ (t : Bool). cond t [] (readings_after before (reading_at_front before b) (readings_from (drop (2 + gse_length b) b)))) over

-- else the one at the front, and those after it
pub one_front : (b : List ℕ) (before : Option Label) (r : Reading) → is_over b ≡ false → r ≡ reading_at_front before b
    → readings_from b before ≡ readings_after before r (readings_from (drop (2 + gse_length b) b))
one_front b before r over is =
    one_by_one b before
    ∙ ap (λ (t : Bool). cond t [] (readings_after before (reading_at_front before b) (readings_from (drop (2 + gse_length b) b)))) over
    ∙ ap (λ (t : Reading). readings_after before t (readings_from (drop (2 + gse_length b) b))) (sym is)
