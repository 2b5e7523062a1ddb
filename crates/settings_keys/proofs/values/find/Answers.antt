use Rattle.toml.proofs.Views.{table_get}
use Rattle.settings_keys.proofs.values.find.Goals as goal

pub returns : goal.returns
returns c = record { found = rw (← c.name.ensures.read) (table_get c.get.result c.name.result.now c.args.table.now.entries c.get.ensures.value) }
