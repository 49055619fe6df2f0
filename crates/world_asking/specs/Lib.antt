pub mod Prober
