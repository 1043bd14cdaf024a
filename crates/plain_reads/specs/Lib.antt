pub mod BestSoFar
