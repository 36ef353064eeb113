mod Printed
mod WorkedLemmas
