-- The names of keys, and faults as definitions say them.
use Rattle.std.specs.Prelude.{ℕ, List, codes}
use Rattle.settings_spec.specs.Keys.{SettingsFault, no_document, missing, wrong_type, out_of_range, same_pid, same_name, wrong_rules, wrong_window, short_gap, long_cycle, no_stamps, wrong_carrier, unknown_key, wrong_change}
use Rattle.settings_keys.specs.declared.key.Key.{Key}
use Rattle.settings_keys.specs.declared.key.Key.TheVariants as key
use Rattle.settings_keys.specs.declared.fault.PlanFault.{PlanFault}
use Rattle.settings_keys.specs.declared.fault.PlanFault.TheVariants as fault

-- a key as it stands in settings
abbrev pub key_text : Key → List ℕ
key_text key.Carrier = codes "carrier"
key_text key.Recording = codes "recording"
key_text key.PacketRate = codes "packet_rate"
key_text key.Cycle = codes "cycle"
key_text key.FrameBytes = codes "frame_bytes"
key_text key.Int = codes "int"
key_text key.Service = codes "service"
key_text key.Pid = codes "pid"
key_text key.PlatformId = codes "platform_id"
key_text key.NetworkId = codes "network_id"
key_text key.OriginalNetworkId = codes "original_network_id"
key_text key.TransportStreamId = codes "transport_stream_id"
key_text key.Name = codes "name"
key_text key.Kind = codes "kind"
key_text key.Isi = codes "isi"
key_text key.Address = codes "address"
key_text key.Packing = codes "packing"
key_text key.Mode = codes "mode"
key_text key.Rows = codes "rows"
key_text key.Parity = codes "parity"
key_text key.WindowStart = codes "window_start"
key_text key.WindowLength = codes "window_length"
key_text key.Rules = codes "rules"
key_text key.Urgent = codes "urgent"
key_text key.Filter = codes "filter"
key_text key.Unicast = codes "unicast"
key_text key.ServiceId = codes "service_id"
key_text key.ComponentTag = codes "component_tag"
key_text key.Change = codes "change"
key_text key.At = codes "at"

-- a fault of the code
abbrev pub fault_seen : PlanFault → SettingsFault
fault_seen fault.Text = no_document
fault_seen (fault.Missing k) = missing (key_text k)
fault_seen (fault.Type_ k) = wrong_type (key_text k)
fault_seen (fault.Range k) = out_of_range (key_text k)
fault_seen fault.SamePid = same_pid
fault_seen fault.SameName = same_name
fault_seen fault.Rules = wrong_rules
fault_seen fault.Window = wrong_window
fault_seen fault.Gap = short_gap
fault_seen fault.Delta = long_cycle
fault_seen fault.NeedsStamps = no_stamps
fault_seen fault.Carrier = wrong_carrier
fault_seen fault.Unknown = unknown_key
fault_seen fault.Change = wrong_change
