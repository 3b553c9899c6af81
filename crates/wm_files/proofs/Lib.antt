mod Known
mod PairsAt
