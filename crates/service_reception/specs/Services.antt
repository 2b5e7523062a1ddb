-- The services whose units a kind of unit reads.
use Rattle.std.specs.Prelude.{◌≡◌, ℕ, List, refl}
use Rattle.ts_spec.specs.Sndu.{sndu_form}
use Rattle.section_spec.specs.Section.{section_form}
use Rattle.stream_spec.specs.Services.{form_of_kind}
use Rattle.plan_spec.specs.Plan.{KindFields, ule, mpe, fec, gse, ServiceFields}

-- a service of SNDUs (RFC 4326)
abbrev pub IsUle : KindFields → Type 0
IsUle (ule pid address packing) = Unit {0}
IsUle (mpe pid) = ⊥
IsUle (fec pid rows parity window) = ⊥
IsUle (gse isi address) = ⊥

-- a service of datagram_sections (EN 301 192 clause 7)
abbrev pub IsMpe : KindFields → Type 0
IsMpe (ule pid address packing) = ⊥
IsMpe (mpe pid) = Unit {0}
IsMpe (fec pid rows parity window) = ⊥
IsMpe (gse isi address) = ⊥

-- a service of such a kind, with this filter
pub record IsServed (IsOfKind : KindFields → Type 0) (filter : List (List ℕ)) (service : ServiceFields) : Type 0 where
  pub kind : IsOfKind service.kind
  pub filter_is : service.filter ≡ filter

-- the units of these services are SNDUs, and sections
pub ule_form : (kind : KindFields) → IsUle kind → form_of_kind kind ≡ sndu_form
ule_form (ule pid address packing) of_kind = refl
ule_form (mpe pid) of_kind = absurd of_kind
ule_form (fec pid rows parity window) of_kind = absurd of_kind
ule_form (gse isi address) of_kind = absurd of_kind

pub mpe_form : (kind : KindFields) → IsMpe kind → form_of_kind kind ≡ section_form
mpe_form (ule pid address packing) of_kind = absurd of_kind
mpe_form (mpe pid) of_kind = refl
mpe_form (fec pid rows parity window) of_kind = absurd of_kind
mpe_form (gse isi address) of_kind = absurd of_kind
