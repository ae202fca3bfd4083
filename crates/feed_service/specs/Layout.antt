-- What the fields of a window hold.
use Rattle.std.specs.Prelude.{◌-◌, vec_len, vec_capacity}
use Rattle.tx_model.specs.Records.{RiseByOne}
use Rattle.feed_service.specs.declared.window.Window.TheInside.{Inside}
use Rattle.feed_service.specs.Contents.{Contents}

abbrev pub contents_of : Inside → Contents
contents_of w = record { log = w.records.items; room = vec_capacity w.records - vec_len w.records }

-- the records are valid, and their ids are their places
abbrev pub IsWindow : Inside → Type 0
IsWindow w = RiseByOne 1 w.records.items
