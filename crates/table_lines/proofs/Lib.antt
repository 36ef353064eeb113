mod BoundText
mod Examples
mod Printed
