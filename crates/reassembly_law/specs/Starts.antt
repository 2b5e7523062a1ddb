-- The starts of a packet, one from another.
use Rattle.std.specs.Prelude.{◌≡◌, ℕ, List, [], length, drop, nat_lt, if◌then◌else◌}
use Rattle.ts_spec.specs.Form.{UnitForm}
use Rattle.ts_spec.specs.Reassembly.{starts_behind, starts_within}

-- the starts from a place of a payload on (RFC 4326 sections 6, 7)
abbrev pub starts_from : UnitForm → List ℕ → ℕ → List ℕ
starts_from form payload place = starts_within form (length payload) place (drop place payload)

-- the bytes at a place tell whether a unit starts there, and where the next place is (RFC 4326 sections 6, 7)
abbrev pub StartsOneByOne : UnitForm → List ℕ → ℕ → Type 0
StartsOneByOne form payload place = starts_from form payload place
    ≡ (if nat_lt (length (drop place payload)) form.start then [] else
    starts_behind place (drop place payload) (length (drop place payload)) (form.span (drop place payload)) (λ next rest. starts_from form payload next))
