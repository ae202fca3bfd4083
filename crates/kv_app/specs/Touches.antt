-- The keys that ops name.
pub use Rattle.tx_model.specs.Applications.{op_key, key_set, touched_keys}
