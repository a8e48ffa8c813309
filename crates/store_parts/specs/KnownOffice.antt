-- What office_known states of an office's hosts and of the catalog that stands for them, passed on to the crates of the events,
-- which needn't name that crate then.
pub use Rattle.office_known.specs.KnownLaws.{known_of_office, indices_from, index_at, head_of_catalog, host_of_catalog, stands_catalog, one_catalog}
pub use Rattle.office_known.specs.CatalogLaws.{
  IsNamed,
  named_host,
  no_named,
  index_found,
  index_there,
  host_found,
  host_known,
  host_replaced,
  hosts_counted,
  hosts_longer,
  names_known,
  receipt_known,
}
