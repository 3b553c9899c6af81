mod Faults
mod Sets
mod Tables
