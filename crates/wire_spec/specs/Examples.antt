-- Small datagrams, to try the definitions on.
use Rattle.std.specs.Prelude.{ℕ, List, [], ◌∷◌, replicate}

-- an IPv4 header without payload, to 239.1.2.3 (RFC 791 section 3.1)
abbrev pub small_ipv4 : List ℕ
small_ipv4 =
    0x45 ∷ 0 ∷ 0 ∷ 20 ∷ 0 ∷ 0 ∷ 0 ∷ 0 ∷ 0x40 ∷ 0x11 ∷ 0 ∷ 0 ∷ 10 ∷ 0 ∷ 0 ∷ 1 ∷ 239 ∷ 1 ∷ 2 ∷ 3 ∷ []

-- an IPv6 header without payload: Next Header 59, no next header (RFC 8200 section 3)
abbrev pub small_ipv6 : List ℕ
small_ipv6 = 0x60 ∷ 0 ∷ 0 ∷ 0 ∷ 0 ∷ 0 ∷ 59 ∷ 64 ∷ replicate 32 0

-- the same with a hop-by-hop header: a jumbogram (RFC 2675 section 3)
abbrev pub jumbogram : List ℕ
jumbogram = 0x60 ∷ 0 ∷ 0 ∷ 0 ∷ 0 ∷ 0 ∷ 0 ∷ 64 ∷ replicate 32 0
