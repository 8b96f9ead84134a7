pub mod Ingresses
pub mod Egresses
pub mod IoLoop
pub mod Internal
