pub mod Include
