mod Admitted
mod Faults
mod Hosts
mod Served
