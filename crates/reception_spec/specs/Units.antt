-- What the receiver of a service makes of a unit: it delivers the datagram that the unit carries by itself, where it wants the unit:
-- an SNDU (RFC 4326) or a datagram_section (EN 301 192 clause 7). Sections of MPE-FEC frames (clause 9) give theirs by their frame.
use Rattle.std.specs.Prelude.{ℕ, Bool, false, not, ◌&&◌, List, [], length, nat_lt, if◌then◌else◌, Option, Some, None}
use Rattle.ts_spec.specs.Sndu.{sndu_fields}
use Rattle.section_spec.specs.Section.{section_fields}
use Rattle.section_spec.specs.Mpe.{mac_in}
use Rattle.addr_rules.specs.Filter.{is_wanted}
use Rattle.addr_rules.specs.declared.filter.Label.{Label}
use Rattle.addr_rules.specs.declared.filter.Label.TheVariants.{Six, Broadcast}
use Rattle.fec_frame_spec.specs.Sections.{frame_sections_in}
use Rattle.plan_spec.specs.Plan.{KindFields, ule, mpe, fec, gse, ServiceFields}
use Rattle.stream_spec.specs.Services.{carried_by_unit}

-- the label of an SNDU: its NPA address; one without an address is for all receivers (RFC 4326 section 4.5)
abbrev pub label_of_npa : Option (List ℕ) → Label
label_of_npa None = Broadcast
label_of_npa (Some npa) = Six npa

-- the label of a unit: an NPA address, or MAC_address_1 to _6 (RFC 4326 section 4.5, EN 301 192 clause 7). Sections of frames are for all receivers: such a
-- service has no filter
abbrev pub label_of : KindFields → List ℕ → Label
label_of (ule pid address packing) unit = label_of_npa (sndu_fields unit).npa
label_of (mpe pid) unit = Six (mac_in (section_fields unit).body)
label_of (fec pid rows parity window) unit = Broadcast
label_of (gse isi address) unit = Broadcast

-- the filter of the service wants the unit
abbrev pub wants_unit : ServiceFields → List ℕ → Bool
wants_unit service unit = is_wanted service.filter (label_of service.kind unit)

-- the unit carries a datagram, or is a section that has a place in a frame: one whose datagram passes the application data table has none
abbrev pub is_read : KindFields → List ℕ → Bool
is_read (ule pid address packing) unit = nat_lt 0 (length (carried_by_unit (ule pid address packing) unit))
is_read (mpe pid) unit = nat_lt 0 (length (carried_by_unit (mpe pid) unit))
is_read (fec pid rows parity window) unit = nat_lt 0 (length (frame_sections_in rows unit))
is_read (gse isi address) unit = false

-- it is neither, wanted or not
abbrev pub is_unread : ServiceFields → List ℕ → Bool
is_unread service unit = not (is_read service.kind unit)

-- it is one of these, and is not wanted
abbrev pub is_filtered : ServiceFields → List ℕ → Bool
is_filtered service unit = not (is_unread service unit) && not (wants_unit service unit)

-- what is delivered of the unit by itself, as a list of at most one; of a section of a frame nothing
abbrev pub delivered_by_unit : ServiceFields → List ℕ → List (List ℕ)
delivered_by_unit service unit = if wants_unit service unit then carried_by_unit service.kind unit else []
